use mathlib.Core.Path.{◌≡◌, sym, ap}
use Prim.Native.Nat.{ℕ, ◌+◌, ◌/◌}
use lib.ListN.{length}
use borrow.Author.Rules.{rules}
use native.Mathlib.Omega.{arith}
use Rattle.codes.proofs.Fields.{width_low}
use Rattle.receiver.proofs.States.{few}
use Rattle.receiver.proofs.Calls.{accepts}
use Rattle.receiver.proofs.Receiver.accept.Goals as goal

pub overflow_add-n : goal.overflow_add-n
overflow_add-n c = omega (arith, few c.args.self.now c.in_ok-l.l (sym c.in_ok-l.ensures), width_low c.in_ok-l.l)

pub returns : goal.returns
returns c =
    let a = c.args in
    let size : length a.self.now.pending ≡ 12 = search rules in
    accepts a.self.now size c.in_ok-l.l (sym c.in_ok-l.ensures) a.piece.now a.rows.now _ _ _ (omega (arith, ap (λ (w : ℕ). (a.self.now.count + length a.piece.now) / w) c.size.ensures)) c.if-rows-n.false c.pass.ensures
