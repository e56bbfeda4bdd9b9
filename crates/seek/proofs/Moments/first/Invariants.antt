-- The invariant of both loops: nothing of the window is named before the second that is looked at next.
use Rattle.std.proofs.Common.{◌+◌, ◌-◌, ◌≤◌}
use Rattle.leap.specs.Builtin.{builtin, first_index}
use Rattle.leap.proofs.Builtin.{builtin_good}
use Rattle.seek.proofs.Search.{Searched}
use Rattle.seek.proofs.Moments.first.Given as goal

abbrev pub invariant-fields : goal.invariant-fields
invariant-fields l = Searched builtin builtin_good l.self.wants l.self.at l.self.to l.day l.s

abbrev pub decreases-fields : goal.decreases-fields
decreases-fields l = l.end - l.s

abbrev pub invariant-days : goal.invariant-days
invariant-days l = (first_index ≤ l.day) × Searched builtin builtin_good l.self.wants l.self.at l.self.to l.day l.s

abbrev pub decreases-days : goal.decreases-days
decreases-days l = l.self.last + 1 - l.day
