-- A number's place in a range, from the range's start.
use Rattle.std.specs.Prelude.{ℕ, cond, ℤ, nat_abs, ◌-ℤ◌, Option, Some, None}
use Rattle.base.specs.Parts.{within}

unfoldable pub seat_of : ℤ → ℤ → ℤ → Option ℕ
seat_of lo hi z = cond (within lo hi z) (Some (nat_abs (z -ℤ lo))) None
