-- `receiver::go_on` meets its contract. The loop's invariant: the first T-fields stand in their rows.
use native.Mathlib.Omega.{arith}
use Rattle.receiver.proofs.Going.{begins, goes_on, went}
use Rattle.receiver.proofs.go_on.Goals as goal

pub loop-row-init : goal.loop-row-init
loop-row-init c = begins _ _ _ _ c.requires

pub loop-row-preserved : goal.loop-row-preserved
loop-row-preserved c = rw (c.row_at.ensures, c.size-w.ensures) (goes_on c.loop-row.invariant (omega arith))

pub returns : goal.returns
returns c = went c.loop-row.invariant (omega arith)
