use Rattle.receiver.proofs.Going.{Going}
use Rattle.receiver.proofs.go_on.Given as goal

abbrev pub invariant-loop-row : goal.invariant-loop-row
invariant-loop-row l = Going l.piece l.at l.l l.initial.rows l.rows l.end l.row-index
