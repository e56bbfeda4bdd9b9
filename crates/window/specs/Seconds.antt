-- Seconds as natural numbers, raised by a bias B, and the first second of a window for moments that share one tick count.
use Rattle.std.specs.Prelude.{cond, ℕ, ◌+◌, ◌-◌, ltb, ℤ}
use Rattle.base.specs.Parts.{plus, minus}

-- z + B, of a second z from -B on
abbrev pub raised_by : ℕ → ℤ → ℕ
raised_by B z = B + plus z - minus z

-- the first second whose moment at tick k is at or after second s and tick u
unfoldable pub first_second : ℕ → ℕ → ℕ → ℕ
first_second s u k = cond (ltb k u) (s + 1) s
