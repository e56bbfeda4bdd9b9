-- TAI minus UTC by a table of rows, for any table (document 01, "The calendar and the table"). So that all is natural numbers: a day is its index, counted from 0001-01-01; an offset is raised by 64, since 63 later rows can take at most 63 away from a first offset of 0; and a TAI second is raised by both, so that a day begins at day × 86,400 + its offset.
use Rattle.std.specs.Prelude.{ℕ, ◌+◌, ◌-◌, ◌*◌, ◌/◌, min, Bool, true, cond, ◌&&◌, ◌||◌, List, [], ◌∷◌, ltb, leb, eqb}
use Rattle.base.specs.Outcome.{Outcome, done, need}
use Rattle.leap.specs.declared.Row.{Row}
use Rattle.leap.specs.declared.Reading.{Reading}
use Rattle.leap.specs.declared.Day.{Day}

-- the first row, the later rows, and the last covered day
pub record Table : Type 0 where
  pub first : Row
  pub later : List Row
  pub last : ℕ

-- neighbouring offsets differ by exactly one
abbrev pub near : ℕ → ℕ → Bool
near a b = eqb b (a + 1) || eqb a (b + 1)

-- the rows' days rise, and their offsets go by ones
abbrev pub good_from : Row → List Row → Bool
good_from r [] = true
good_from r (r' ∷ rs) = (ltb r.day r'.day && near r.offset r'.offset) && good_from r' rs

abbrev pub last_row : Row → List Row → Row
last_row r [] = r
last_row r (r' ∷ rs) = last_row r' rs

-- a table that the laws are about: .. and the cover reaches the last row's day
abbrev pub good : Table → Bool
good t = good_from t.first t.later && leb (last_row t.first t.later).day t.last

-- the offset of a day: that of the last row whose day has come
abbrev pub off_from : Row → List Row → ℕ → ℕ
off_from r [] d = r.offset
off_from r (r' ∷ rs) d = cond (ltb d r'.day) r.offset (off_from r' rs d)

unfoldable pub offset : Table → ℕ → ℕ
offset t d = off_from t.first t.later d

-- the TAI second in which a day begins, and how many seconds the day has
unfoldable pub start : Table → ℕ → ℕ
start t d = d * 86400 + offset t d

unfoldable pub day_length : Table → ℕ → ℕ
day_length t d = start t (d + 1) - start t d

unfoldable pub covers : Table → ℕ → Bool
covers t d = leb t.first.day d && leb d t.last

-- "TAI second = day × 86,400 + second of day + offset of that day"; a second of day over 86,400 is 4, a day outside the table 5, a second that the day does not have 6
unfoldable pub second_at : Table → ℕ → ℕ → Outcome ℕ
second_at t d x = need (leb x 86400) 4 (need (covers t d) 5 (need (ltb x (day_length t d)) 6 (done (d * 86400 + x + offset t d))))

-- the day that holds a TAI second: by the last row that has begun, but before the next row's day, so that 23:59:60 stands in its own day
abbrev pub day_from : Row → List Row → ℕ → ℕ
day_from r [] s = (s - r.offset) / 86400
day_from r (r' ∷ rs) s = cond (ltb s (r'.day * 86400 + r'.offset)) (min ((s - r.offset) / 86400) (r'.day - 1)) (day_from r' rs s)

unfoldable pub day_holding : Table → ℕ → ℕ
day_holding t s = day_from t.first t.later s

unfoldable pub covers_second : Table → ℕ → Bool
covers_second t s = leb (start t t.first.day) s && ltb s (start t (t.last + 1))

-- a day, a second of it, and the day's offset
abbrev pub reading : Table → ℕ → ℕ → Reading
reading t d x = record { day = d; second = x; offset = offset t d }

-- the UTC reading of a TAI second; outside the cover 5
unfoldable pub reading_at : Table → ℕ → Outcome Reading
reading_at t s = need (covers_second t s) 5 (done (reading t (day_holding t s) (s - start t (day_holding t s))))

-- the TAI second in which a day begins, and how many seconds it has; a day outside the table is 5
abbrev pub day_on : Table → ℕ → Day
day_on t d = record { start = start t d; length = day_length t d }

unfoldable pub day_at : Table → ℕ → Outcome Day
day_at t d = need (covers t d) 5 (done (day_on t d))
