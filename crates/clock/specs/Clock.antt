-- The clock of a UTC day (document 01, "The codes"): hh:mm:ss, and the second of the day that it shows.
use Rattle.std.specs.Prelude.{Bool, cond, ◌&&◌, ◌||◌, ℕ, ◌+◌, ◌*◌, ◌/◌, ltb, eqb}
use Rattle.base.specs.Outcome.{Outcome, done, need}

-- "Second 60 is a good field only at 23:59"
abbrev pub clock_ok : ℕ → ℕ → ℕ → Bool
clock_ok h m s = ltb h 24 && (ltb m 60 && (ltb s 60 || (eqb s 60 && (eqb h 23 && eqb m 59))))

-- 23:59:60 is second 86,400
abbrev pub second_of_day : ℕ → ℕ → ℕ → ℕ
second_of_day h m s = h * 3600 + m * 60 + s

-- the second of the day that hh:mm:ss shows; a field that breaks its rule is 4
abbrev pub clock_of : ℕ → ℕ → ℕ → Outcome ℕ
clock_of h m s = need (clock_ok h m s) 4 (done (second_of_day h m s))

-- the minute of the day: a second 60 belongs to the last
abbrev pub minute_of : ℕ → ℕ
minute_of n = cond (ltb n 86400) (n / 60) 1439
