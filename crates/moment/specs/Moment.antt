-- A moment of UTC as a code's fields name it, before any table: a day counted from 1958-01-01, a second of that day and ticks of that second. Whether a table has the day (5) and the day the second (6) is judged above the codes.
use Rattle.std.specs.Prelude.{◌≡◌, Bool, ◌&&◌, ℕ, ◌≤◌, leb, ltb, ℤ}
use Rattle.scale.specs.Time.{per_second}
use Rattle.moment.specs.declared.Moment.{Moment}

abbrev pub moment : ℤ → ℕ → ℕ → Moment
moment d x k = record { day = d; second = x; ticks = k }

-- some day can have such a second, 86,400 being 23:59:60, and a second such ticks
unfoldable pub is_moment : Moment → Bool
is_moment m = leb m.second 86400 && ltb m.ticks per_second

-- n stands in the second of m, and of all ticks that a code can name none lies between its ticks and those of m
pub record Floor (Has : Moment → Type 0) (m n : Moment) : Type 0 where
  pub had : Has n
  pub day : n.day ≡ m.day
  pub second : n.second ≡ m.second
  pub below : n.ticks ≤ m.ticks
  pub most : (x : Moment) → Has x → x.ticks ≤ m.ticks → x.ticks ≤ n.ticks
