use Rattle.std.proofs.Common.{◌≡◌, ◌≤◌, ◌*◌}
use Prim.Native.Nat.{min}
use Rattle.calendar.specs.Gregorian.{up_to}
use Rattle.calendar.proofs.days_before.Given as goal

abbrev pub invariant-loop-i : goal.invariant-loop-i
invariant-loop-i l = (l.days ≡ up_to l.fn.months (min l.i l.n)) × (l.days ≤ 255 * l.i)
