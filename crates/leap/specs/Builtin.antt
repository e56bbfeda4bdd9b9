-- The built-in table of document 01, and the ends of its cover.
use Rattle.std.specs.Prelude.{ℕ, ◌+◌, List, [], ◌∷◌, map, get_or, drop}
use Rattle.leap.specs.Table.{Table}
use Rattle.leap.specs.Utc.{day_raise, offset_raise, second_raise}
use Rattle.leap.specs.declared.Leap.{Leap}
use Rattle.leap.specs.declared.Row.{Row}

-- a day, counted from 1958-01-01, and TAI minus UTC from then on
abbrev pub leap_on : ℕ → ℕ → Leap
leap_on d o = record { day = d; offset = o }

abbrev pub no_leap : Leap
no_leap = leap_on 0 0

abbrev pub published : List Leap
published =
    leap_on 5113 10 ∷
    leap_on 5295 11 ∷
    leap_on 5479 12 ∷
    leap_on 5844 13 ∷
    leap_on 6209 14 ∷
    leap_on 6574 15 ∷
    leap_on 6940 16 ∷
    leap_on 7305 17 ∷
    leap_on 7670 18 ∷
    leap_on 8035 19 ∷
    leap_on 8582 20 ∷
    leap_on 8947 21 ∷
    leap_on 9312 22 ∷
    leap_on 10043 23 ∷
    leap_on 10957 24 ∷
    leap_on 11688 25 ∷
    leap_on 12053 26 ∷
    leap_on 12600 27 ∷
    leap_on 12965 28 ∷
    leap_on 13330 29 ∷
    leap_on 13879 30 ∷
    leap_on 14426 31 ∷
    leap_on 14975 32 ∷
    leap_on 17532 33 ∷
    leap_on 18628 34 ∷
    leap_on 19905 35 ∷
    leap_on 21000 36 ∷
    leap_on 21550 37 ∷ []

-- raised as the laws want it
abbrev pub row_of : Leap → Row
row_of p = record { day = p.day + day_raise; offset = p.offset + offset_raise }

abbrev pub no_row : Row
no_row = row_of no_leap

abbrev pub leaps : List Row
leaps = map row_of published

-- "it covers days 5113 (1972-01-01) to 24836 (2025-12-31)"
abbrev pub first_day : ℕ
first_day = 5113

abbrev pub last_day : ℕ
last_day = 24836

unfoldable pub builtin : Table
builtin = record { first = get_or leaps 0 no_row; later = drop 1 leaps; last = last_day + day_raise }

-- "Covered TAI seconds are 441,763,210 to 2,145,916,836": proofs/Builtin has these and the raised ends from the table
abbrev pub first_second : ℕ
first_second = 441763210

abbrev pub last_second : ℕ
last_second = 2145916836

-- the same ends raised: days as indices, seconds as the table has them, and the first of each past the cover
abbrev pub first_index : ℕ
first_index = first_day + day_raise

abbrev pub last_index : ℕ
last_index = last_day + day_raise

abbrev pub past_index : ℕ
past_index = last_index + 1

abbrev pub first_raised : ℕ
first_raised = first_second + second_raise

abbrev pub past_raised : ℕ
past_raised = last_second + second_raise + 1
