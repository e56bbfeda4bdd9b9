-- Dates and day numbers, TAI seconds and UTC readings (document 01, "The calendar and the table"), by any table.
use Rattle.std.specs.Prelude.{Bool, ◌&&◌, List, [], ◌∷◌, ℕ, ◌+◌, ltb, leb, ℤ, pos, negsuc, nat_abs, ◌+ℤ◌}
use Rattle.std.specs.Int.Signed.{le_z, lt_z}
use Rattle.base.specs.Parts.{within, lowered_by}
use Rattle.calendar.specs.Gregorian.{is_date, is_ordinal, from_epoch}
use Rattle.leap.specs.Table.{Table, start, day_length}
use Rattle.leap.specs.Utc.{day_raise, second_raise}
use Rattle.promises.specs.Rungs.{Rung, rung}

-- "A bad date is 4, a day number outside them 7"
abbrev pub day_of_date_rungs : ℕ → ℕ → ℕ → List Rung
day_of_date_rungs y m d = rung 4 (is_date y m d) ∷ []

abbrev pub day_of_ordinal_rungs : ℕ → ℕ → List Rung
day_of_ordinal_rungs y d = rung 4 (is_ordinal y d) ∷ []

-- "Day -714,779 is 0001-01-01; day 2,937,279 is 9999-12-31"
abbrev pub is_day : ℤ → Bool
is_day z = within (negsuc 714778) (pos 2937279) z

abbrev pub date_of_day_rungs : ℤ → List Rung
date_of_day_rungs z = rung 7 (is_day z) ∷ []

abbrev pub ordinal_of_day_rungs : ℤ → List Rung
ordinal_of_day_rungs z = rung 7 (is_day z) ∷ []

-- ---- the cover
-- "it covers days 5113 (1972-01-01) to 24836 (2025-12-31)": from the first row's day to the last day
abbrev pub covered_day : Table → ℤ → Bool
covered_day t z = within (from_epoch t.first.day) (from_epoch t.last) z

-- "Covered TAI seconds are 441,763,210 to 2,145,916,836": from the one in which the first day begins to before the one in which the day past the last begins
abbrev pub first_covered : Table → ℤ
first_covered t = lowered_by second_raise (start t t.first.day)

abbrev pub past_cover : Table → ℤ
past_cover t = lowered_by second_raise (start t (t.last + 1))

abbrev pub covered_second : Table → ℤ → Bool
covered_second t z = le_z (first_covered t) z && lt_z z (past_cover t)

-- the index of a day. Said of one from 0001-01-01 on, as a covered day is
abbrev pub index_of : ℤ → ℕ
index_of z = nat_abs (z +ℤ pos day_raise)

-- "a second 60 (or millisecond from 86,400,000) on a day without one" is 6: day z is long enough for second x. Said of a covered day
abbrev pub has_second : Table → ℤ → ℕ → Bool
has_second t z x = ltb x (day_length t (index_of z))

abbrev pub utc_of_second_rungs : Table → ℤ → List Rung
utc_of_second_rungs t z = rung 5 (covered_second t z) ∷ []

-- a second of day over 86,400 breaks its field's rule
abbrev pub second_of_utc_rungs : Table → ℤ → ℕ → List Rung
second_of_utc_rungs t d x = rung 4 (leb x 86400) ∷ rung 5 (covered_day t d) ∷ rung 6 (has_second t d x) ∷ []
