-- The loop's invariant is `Going`: what was written and what is still to come are the whole.
use mathlib.Core.List.{[]}
use Prim.Native.Nat.{◌-◌}
use lib.ListN.{length, take, drop}
use Rattle.leap.specs.Builtin.{builtin}
use Rattle.lines.specs.Split.{fate, after}
use Rattle.lines.proofs.Going.{Going}
use Rattle.lines.proofs.go_on.Given as goal

abbrev pub invariant-loop-end : goal.invariant-loop-end
invariant-loop-end l = Going l.piece l.initial.out (after (take l.at l.initial.out) l.from (fate builtin [] (drop l.from l.piece) (length l.initial.out - l.at))) l.out l.begin l.wrote l.end

abbrev pub decreases-loop-end : goal.decreases-loop-end
decreases-loop-end l = length l.piece - l.end
