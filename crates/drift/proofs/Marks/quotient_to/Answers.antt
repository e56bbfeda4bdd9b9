use native.Mathlib.Omega.{arith}
use Rattle.drift.proofs.Quotients.{not_elapsed, is_rate, at_most}
use Rattle.drift.proofs.Marks.quotient_to.Goals as goal

pub returns-then-ground-le-MOST : goal.returns-then-ground-le-MOST
returns-then-ground-le-MOST c =
    not_elapsed _ _ c.in_ok-onboard.onboard c.in_ok-ground.ground c.steps_to.ensures c.steps_to-2.ensures (grind arith) (grind arith) (omega arith)

pub invariant_of-result : goal.invariant_of-result
invariant_of-result c = record { few = grind (arith, at_most); some = omega arith }

pub returns : goal.returns
returns c =
    is_rate _ _ c.in_ok-onboard.onboard c.in_ok-ground.ground c.steps_to.ensures c.steps_to-2.ensures (grind arith) (grind arith) (omega arith)
