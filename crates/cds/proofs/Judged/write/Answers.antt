-- The seat is the day's place in the field, and the three numbers stand one after another.
use mathlib.Core.Path.{◌≡◌, refl, sym, ap, ◌∙◌}
use Prim.Native.Nat.{◌-◌, ◌^◌}
use native.Mathlib.Omega.{arith}
use borrow.Author.Rules.{rules}
use borrow.Author.Tests.{leb-true, leb-false}
use lib.IntN.{pos, ◌+ℤ◌}
use mir.Syntax.{w64}
use mir.Val.{to_z, of_z}
use Rattle.std.specs.Prelude.{Err, Some, None}
use Rattle.base.specs.Parts.{plus, minus, At}
use Rattle.base.specs.Seats.{seat_of}
use Rattle.base.proofs.Signed.{at_sum}
use Rattle.base.specs.declared.Refusal.TheVariants.{Range}
use Rattle.octets.proofs.Writes.{refuses}
use Rattle.cds.proofs.Laws.{many_days}
use Rattle.cds.proofs.Stores.{seat_held, seat_over, laid_in, laid_out}
use Rattle.cds.proofs.Promises.{written_held, written_out}
use Rattle.cds.proofs.Judged.write.Goals.{After-seated}
use Rattle.cds.proofs.Judged.write.Goals as goal

-- the seat, of the numbers themselves
seat : (c : After-seated) → let l = c.args.self.layout in c.seated.result ≡ seat_of l.epoch (l.epoch +ℤ pos (256 ^ l.day - 1)) c.args.m.day
seat c =
    let l = c.args.self.layout in
    let z = c.args.m.day in
    let last = l.epoch +ℤ pos (256 ^ l.day - 1) in
    let m = many_days l c.args.self.good c.power256.result c.power256.ensures in
    let e : to_z w64 (of_z w64 l.epoch) ≡ l.epoch = search rules in
    let f : to_z w64 (of_z w64 z) ≡ z = search rules in
    let b : At (2 ^ 63) c.raised.result l.epoch = omega (arith, c.raised.ensures, ap plus e, ap minus e) in
    let i : last ≡ c.lowered-last.result = at_sum (2 ^ 63) c.raised.result (256 ^ l.day - 1) l.epoch c.lowered-last.result b (omega (arith, c.lowered-last.ensures, m)) in
    let k : to_z w64 (of_z w64 c.lowered-last.result) ≡ c.lowered-last.result = search rules in
    let g : to_z w64 (of_z w64 c.lowered-last.result) ≡ last = k ∙ sym i in
    rw (g, f, e) at c.seated.ensures

pub returns-in_err-day : goal.returns-in_err-day
returns-in_err-day c =
    let a = c.args in
    let e : c.from_residual.result ≡ Err Range = search rules in
    let n : c.seated.result ≡ None = search rules in
    let o = seat_over a.self.layout a.m.day _ refl (sym (seat (goal.at.returns-in_err-day c).After-seated) ∙ n) in
    rw e (refuses _ _ _ _ (rw (written_out a.self.layout a.m a.self.good.is c.requires o)))

pub returns-then-not-fits : goal.returns-then-not-fits
returns-then-not-fits c =
    let a = c.args in
    let n : c.seated.result ≡ Some c.in_ok-day.day = search rules in
    let h = seat_held a.self.layout a.m.day _ refl _ (sym (seat (goal.at.returns-then-not-fits c).After-seated) ∙ n) in
    rw (written_held a.self.layout a.m a.self.good.is c.requires h.0) (laid_out a.self.layout _ _ _ a.at a.out.now (leb-false _ _ (sym c.fits.ensures ∙ c.if-not-fits.true)))

pub returns : goal.returns
returns c =
    let a = c.args in
    let n : c.seated.result ≡ Some c.in_ok-day.day = search rules in
    let h = seat_held a.self.layout a.m.day _ refl _ (sym (seat (goal.at.returns c).After-seated) ∙ n) in
    rw (written_held a.self.layout a.m a.self.good.is c.requires h.0, h.1, ← c.unit.ensures)
    (laid_in a.self.layout _ _ _ a.at a.out.now (leb-true _ _ (sym c.fits.ensures ∙ c.if-not-fits.false)) c.put_count.ensures c.put_count-2.ensures c.put_count-3.ensures)
