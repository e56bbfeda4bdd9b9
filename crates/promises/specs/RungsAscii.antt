-- ASCII codes, read and written (document 01: "Order when reading: .. 1, 4, 5, 6. Writing: record 7, then .. 3, .. cover 5 .., room 8").
use Rattle.std.specs.Prelude.{Bool, true, false, ◌&&◌, List, [], ◌∷◌, ℕ, ◌+◌, ◌-◌, leb, ℤ, length}
use Rattle.scale.specs.Time.{Time, is_record}
use Rattle.calendar.specs.Gregorian.{is_date, is_ordinal, day_index, day_of_year, from_epoch}
use Rattle.leap.specs.Table.{Table}
use Rattle.clock.specs.Clock.{clock_ok, second_of_day}
use Rattle.shape.specs.Shapes.{shaped}
use Rattle.ascii.specs.Shapes.{code_shapes}
use Rattle.ascii.specs.Ascii.{front_of, layout_of, number_at, width}
use Rattle.ascii.specs.declared.Layout.{Layout}
use Rattle.promises.specs.Rungs.{Rung, rung}
use Rattle.promises.specs.RungsCalendar.{covered_day, covered_second, has_second}

-- ---- the fields of a text: YYYY-DDD or YYYY-MM-DD, and hh:mm:ss behind its T
abbrev pub date_good : Bool → List ℕ → Bool
date_good true s = is_ordinal (number_at s 0 4) (number_at s 5 3)
date_good false s = is_date (number_at s 0 4) (number_at s 5 2) (number_at s 8 2)

abbrev pub index_in : Bool → List ℕ → ℕ
index_in true s = day_index (number_at s 0 4) (number_at s 5 3)
index_in false s = day_index (number_at s 0 4) (day_of_year (number_at s 0 4) (number_at s 5 2) (number_at s 8 2))

abbrev pub clock_good : List ℕ → ℕ → Bool
clock_good s at = clock_ok (number_at s at 2) (number_at s (at + 3) 2) (number_at s (at + 6) 2)

abbrev pub second_in : List ℕ → ℕ → ℕ
second_in s at = second_of_day (number_at s at 2) (number_at s (at + 3) 2) (number_at s (at + 6) 2)

-- whether the date is a day of the year, and where the clock stands: said of a text of right shape
abbrev pub is_b : List ℕ → Bool
is_b s = (layout_of s).ordinal

abbrev pub clock_in : List ℕ → ℕ
clock_in s = front_of (is_b s) - 8

-- the day number of the date: said of a good one
abbrev pub day_in : List ℕ → ℤ
day_in s = from_epoch (index_in (is_b s) s)

-- "ASCII is empty" 1; "a field .. character or length breaks its rule" 4; "UTC day outside the table" 5; "a second 60 .. on a day without one" 6
abbrev pub read_ascii_rungs : Table → List ℕ → List Rung
read_ascii_rungs t s =
    rung 1 (leb 1 (length s)) ∷
    rung 4 (shaped code_shapes s && (date_good (is_b s) s && clock_good s (clock_in s))) ∷
    rung 5 (covered_day t (day_in s)) ∷
    rung 6 (has_second t (day_in s) (second_in s (clock_in s))) ∷ []

-- "invalid record" 7; "a writer's digits over 12" 3; 5; "output too short" 8
abbrev pub write_ascii_rungs : Table → Layout → Time → List ℕ → List Rung
write_ascii_rungs t l r out =
    rung 7 (is_record r) ∷ rung 3 (leb l.digits 12) ∷ rung 5 (covered_second t r.sec) ∷ rung 8 (leb (width l) (length out)) ∷ []

-- YYYY-MM-DDThh:mm:ss.fffZ is 24 characters long
abbrev pub write_wall_rungs : Table → Time → List ℕ → List Rung
write_wall_rungs t r out = rung 7 (is_record r) ∷ rung 5 (covered_second t r.sec) ∷ rung 8 (leb 24 (length out)) ∷ []
