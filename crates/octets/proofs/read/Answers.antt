use mathlib.Core.Path.{◌≡◌, sym, ◌∙◌}
use mathlib.Core.Bool.{true, false}
use Prim.Native.Nat.{◌+◌}
use native.Mathlib.Omega.{arith}
use borrow.Author.Tests.{lt-leb}
use borrow.Author.Rules.{rules}
use lib.ListN.{get_or}
use Rattle.std.specs.Prelude.{Err}
use Rattle.std.proofs.lemmas.List.Edits.{get_or-between}
use Rattle.base.specs.declared.Refusal.TheVariants.{Field}
use Rattle.base.proofs.Bools.{and_no, and_false}
use Rattle.octets.proofs.Counts.{gives_ok, gives_field, gives_short}
use Rattle.octets.proofs.Turns.{turn, below, good_told, bad_told}
use Rattle.octets.proofs.read.Given.{Over}
use Rattle.octets.proofs.read.Goals.{After-BASE, then-WIDEST-w-via-then-WIDEST-w, then-WIDEST-w-via-else-WIDEST-w+then-not-fits}
use Rattle.octets.proofs.read.Goals as goal

pub returns-then-WIDEST-w : goal.returns-then-WIDEST-w
returns-then-WIDEST-w g c =
    elim c.then-WIDEST-w.branch [
      | then-WIDEST-w-via-then-WIDEST-w w ↦ gives_short _ _ _ _ _ _ _ (and_no _ (lt-leb c.args.w _ (omega arith)))
      | then-WIDEST-w-via-else-WIDEST-w+then-not-fits w ↦ gives_short _ _ _ _ _ _ _ (and_false _ _ (sym w.if-not-fits.ensures))
    ]

pub returns-in_err-d : goal.returns-in_err-d
returns-in_err-d g c =
    let p = g.P.Place in
    let a = c.args in
    let x = get_or a.s.now (a.at + c.loop-x.x-index) 0 in
    let t : (p.good x ≡ false) × (c.in_err-d.field-0.0 ≡ Field) = bad_told _ _ _ _ (rw (get_or-between a.s.now a.at (a.at + a.w) c.loop-x.x-index 0 (omega arith)) at c.value.ensures) c.in_err-d.was in
    let e : c.from_residual.result ≡ Err Field = search rules in
    e ∙ gives_field c.loop-x.invariant (omega arith) t.0

-- what the element of a turn tells: it is good, and d is its value
element : (g : Over) (c : After-BASE g) → (g.P.Place.good (get_or c.args.s.now (c.args.at + c.loop-x.x-index) 0) ≡ true) × (c.in_ok-d.d ≡ g.P.Place.value (get_or c.args.s.now (c.args.at + c.loop-x.x-index) 0))
element g c =
    let a = c.args in
    good_told _ _ _ _ (rw (get_or-between a.s.now a.at (a.at + a.w) c.loop-x.x-index 0 (omega arith)) at c.value.ensures) c.in_ok-d.was

pub overflow_mul-n : goal.overflow_mul-n
overflow_mul-n g c = rw c.BASE.ensures (let m = g.met.P.Place in omega (arith, below m.rule m.fits c.loop-x.invariant (omega arith) (element g c).0))

pub overflow_add-n : goal.overflow_add-n
overflow_add-n g c = rw (c.BASE.ensures, (element g c).1) (let m = g.met.P.Place in omega (arith, below m.rule m.fits c.loop-x.invariant (omega arith) (element g c).0))

pub loop-x-preserved : goal.loop-x-preserved
loop-x-preserved g c = rw (c.BASE.ensures, (element g c).1) (turn c.loop-x.invariant (omega arith) (element g c).0)

pub returns : goal.returns
returns g c = gives_ok c.loop-x.invariant (omega arith)
