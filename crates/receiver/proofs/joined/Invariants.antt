use mathlib.Core.List.{◌++◌}
use Rattle.receiver.proofs.Pads.{Padding}
use Rattle.receiver.proofs.joined.Given as goal

abbrev pub invariant-loop-i : goal.invariant-loop-i
invariant-loop-i g l = Padding g.row.N (l.held ++ l.piece) l.octets l.i
