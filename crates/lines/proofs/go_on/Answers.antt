use mathlib.Core.Path.{ap}
use Prim.Native.Nat.{ℕ, ◌+◌}
use native.Mathlib.Omega.{arith}
use mathlib.Core.Path.{refl}
use Rattle.lines.proofs.Texts.{length_answer}
use Rattle.lines.proofs.Going.{pasted_part, stops_here, goes_on}
use Rattle.lines.proofs.go_on.Goals.{then-loop-end-test+else-out-wrote-ge-ROOM, else-loop-end-test}
use Rattle.lines.proofs.go_on.Goals as goal

pub overflow_add-wrote : goal.overflow_add-wrote
overflow_add-wrote c = omega (arith, length_answer)

pub loop-end-preserved : goal.loop-end-preserved
loop-end-preserved c =
    let l = c.loop-end in
    let (n, e) = c.answer-wrote.ensures in
    goes_on l.invariant _ _ _ (omega arith) (omega arith) (ap (λ (k : ℕ). l.wrote + k) n) (pasted_part l.out _ _ _ l.wrote _ refl refl e) c.find-end-in-loop-end.ensures.0 c.find-end-in-loop-end.ensures.2

pub returns : goal.returns
returns c =
    rw (c.join.ensures, c.start.ensures)
    (stops_here c.loop-end.invariant (λ h. elim c.loop-end-test.branch [
      | then-loop-end-test+else-out-wrote-ge-ROOM w ↦ omega (arith, w.if-out-wrote-ge-ROOM.false)
      | else-loop-end-test w ↦ absurd (omega (arith, w.loop-end-test.false))
    ]))
