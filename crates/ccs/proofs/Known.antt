-- Moments and refusals of CCS, by computation, beside the known times of crate `known`. The octets are in decimal: 20 16 in BCD is 32, 22.
use mathlib.Core.Path.{◌≡◌, refl}
use mathlib.Core.Bool.{Bool, true, false}
use mathlib.Core.List.{List, [], ◌∷◌, ◌++◌, map}
use Prim.Native.Nat.{ℕ}
use lib.IntN.{ℤ, pos, negsuc}
use Rattle.base.specs.Parts.{within}
use Rattle.base.specs.Outcome.{Outcome, done, refused}
use Rattle.octets.specs.Counts.{count_of}
use Rattle.calendar.specs.Gregorian.{kind, year_start, years_to, row, month_length, is_date, is_ordinal, day_index, ordinal_on, date_in, index_of_date, index_of_ordinal, ordinal_at, index_of_day}
use Rattle.moment.specs.Moment.{moment, is_moment}
use Rattle.moment.specs.declared.Moment.{Moment}
use Rattle.ccs.specs.declared.Layout.{Layout}
use Rattle.ccs.specs.Ccs.{width, day_at, clock_at, field, date_text, clock_text, bytes_of}

abbrev by : Bool → ℕ → Layout
by o w = record { ordinal = o; segments = w }

abbrev at : ℕ → ℕ → Outcome Moment
at d x = done (moment (pos d) x 0)

-- 20 16 12 31
abbrev month_2016 : List ℕ
month_2016 = 32 ∷ 22 ∷ 18 ∷ 49 ∷ []

-- 23 59 60
abbrev leap_second : List ℕ
leap_second = 35 ∷ 89 ∷ 96 ∷ []

-- 2016-12-31T23:59:59, 2017-01-01T00:00:00, 2015-12-31T23:59:60, 2026-01-01T00:00:00 and 1971-12-31T23:59:59: moments, whatever a table says of them; then 2016-12-31T12:00:60, 24:00:00, a bad digit, 2016-13-31, year 0000, and one octet short
known : map (λ s. field s 0 (by false 0)) ((month_2016 ++ (35 ∷ 89 ∷ 89 ∷ [])) ∷ (32 ∷ 23 ∷ 1 ∷ 1 ∷ 0 ∷ 0 ∷ 0 ∷ []) ∷ ((32 ∷ 21 ∷ 18 ∷ 49 ∷ []) ++ leap_second) ∷ (32 ∷ 38 ∷ 1 ∷ 1 ∷ 0 ∷ 0 ∷ 0 ∷ []) ∷ ((25 ∷ 113 ∷ 18 ∷ 49 ∷ []) ++ (35 ∷ 89 ∷ 89 ∷ [])) ∷ (month_2016 ++ (18 ∷ 0 ∷ 96 ∷ [])) ∷ (month_2016 ++ (36 ∷ 0 ∷ 0 ∷ [])) ∷ (month_2016 ++ (35 ∷ 89 ∷ 90 ∷ [])) ∷ ((32 ∷ 22 ∷ 19 ∷ 49 ∷ []) ++ leap_second) ∷ ((0 ∷ 0 ∷ 18 ∷ 49 ∷ []) ++ leap_second) ∷ (month_2016 ++ (35 ∷ 89 ∷ [])) ∷ []) ≡ at 21549 86399 ∷ at 21550 0 ∷ at 21183 86400 ∷ at 24837 0 ∷ at 5112 86399 ∷ refused 4 ∷ refused 4 ∷ refused 4 ∷ refused 4 ∷ refused 4 ∷ refused 1 ∷ []
unfolding field width day_at clock_at count_of index_of_date is_date month_length day_index year_start kind row
known = refl

-- 0001-01-01T00:00:00 and 9999-12-31T23:59:60, the calendar's ends, read and written, and the days past them
ends : (field (0 ∷ 1 ∷ 1 ∷ 1 ∷ 0 ∷ 0 ∷ 0 ∷ []) 0 (by false 0) ≡ done (moment (negsuc 714778) 0 0)) × (field ((153 ∷ 153 ∷ 18 ∷ 49 ∷ []) ++ leap_second) 0 (by false 0) ≡ at 2937279 86400) × (map (λ (d : ℤ). bytes_of (by false 0) (moment d 86400 0)) (negsuc 714779 ∷ negsuc 714778 ∷ pos 2937279 ∷ pos 2937280 ∷ []) ≡ refused 7 ∷ done ((0 ∷ 1 ∷ 1 ∷ 1 ∷ []) ++ leap_second) ∷ done ((153 ∷ 153 ∷ 18 ∷ 49 ∷ []) ++ leap_second) ∷ refused 7 ∷ [])
unfolding field width day_at clock_at count_of index_of_date is_date month_length day_index year_start kind row bytes_of is_moment date_text clock_text index_of_day within ordinal_at ordinal_on years_to date_in
ends = (refl, refl, refl)

-- 1988-018T17:20:43.123456 with three segments, and its tail cut off to two and to none; second 86,401 and a whole second of ticks are none, and a layout that there is not comes first
fine : (field (25 ∷ 136 ∷ 0 ∷ 24 ∷ 23 ∷ 32 ∷ 67 ∷ 18 ∷ 52 ∷ 86 ∷ []) 0 (by true 3) ≡ done (moment (pos 10974) 62443 505675776000000)) × (bytes_of (by true 3) (moment (pos 10974) 62443 505675776000000) ≡ done (25 ∷ 136 ∷ 0 ∷ 24 ∷ 23 ∷ 32 ∷ 67 ∷ 18 ∷ 52 ∷ 86 ∷ [])) × (bytes_of (by true 2) (moment (pos 10974) 62443 505675776000000) ≡ done (25 ∷ 136 ∷ 0 ∷ 24 ∷ 23 ∷ 32 ∷ 67 ∷ 18 ∷ 52 ∷ [])) × (bytes_of (by true 0) (moment (pos 10974) 62443 4095999999999999) ≡ done (25 ∷ 136 ∷ 0 ∷ 24 ∷ 23 ∷ 32 ∷ 67 ∷ [])) × (bytes_of (by true 0) (moment (pos 10974) 86401 0) ≡ refused 7) × (bytes_of (by true 0) (moment (pos 10974) 62443 4096000000000000) ≡ refused 7) × (bytes_of (by true 7) (moment (pos 10974) 62443 4096000000000000) ≡ refused 3)
unfolding field width day_at clock_at count_of index_of_ordinal is_ordinal day_index bytes_of is_moment date_text clock_text index_of_day within ordinal_at ordinal_on years_to year_start kind
fine = (refl, refl, refl, refl, refl, refl, refl)

-- a layout that there is not is judged before bytes that run out; the digits of the fraction are judged as those of the date; and the top four bits of a day of year are zero
order : (field (16 ∷ 3 ∷ 102 ∷ []) 5 (by true 7) ≡ refused 3) × (field (32 ∷ 38 ∷ 1 ∷ 1 ∷ 0 ∷ 0 ∷ 0 ∷ 10 ∷ []) 0 (by false 1) ≡ refused 4) × (field ((32 ∷ 22 ∷ 19 ∷ 102 ∷ []) ++ leap_second) 0 (by true 0) ≡ refused 4)
unfolding field width day_at clock_at count_of index_of_date index_of_ordinal is_date is_ordinal month_length day_index year_start kind row
order = (refl, refl, refl)
