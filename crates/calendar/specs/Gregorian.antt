-- The Gregorian calendar (document 01, "The calendar and the table"). A day's index counts from 0001-01-01, which has index 0.
use Rattle.std.specs.Prelude.{ℕ, zero, suc, ◌+◌, ◌-◌, ◌*◌, ◌/◌, ◌%◌, Bool, true, false, cond, ◌&&◌, List, [], ◌∷◌, ltb, leb, eqb, ℤ, pos, negsuc, nat_abs, ◌+ℤ◌, get_or}
use Rattle.std.proofs.Math.IntN.{sub_ℕ}
use Rattle.base.specs.Outcome.{Outcome, done, need, and_then, given}
use Rattle.base.specs.Parts.{within}
use Rattle.calendar.specs.declared.Date.{Date}
use Rattle.calendar.specs.declared.Ordinal.{Ordinal}

-- "leap years divisible by 4, except by 100 and not 400"
abbrev pub is_leap : ℕ → Bool
is_leap y = cond (eqb (y % 4) 0) (cond (eqb (y % 100) 0) (eqb (y % 400) 0) true) false

-- a year's row in the table of months: 1 for a leap year and 0 for any other
unfoldable pub kind : ℕ → ℕ
kind y = cond (is_leap y) 1 0

abbrev pub year_length : ℕ → ℕ
year_length y = 365 + kind y

-- the days of the first n years: `next_start` (proofs/Years) has each year add its length
unfoldable pub year_start : ℕ → ℕ
year_start n = 365 * n + n / 4 + n / 400 - n / 100

-- the whole years before day n: the estimate by the mean year, or one more; `years_hold` (proofs/Years) has day n in the year after them
unfoldable pub years_to : ℕ → ℕ
years_to n = let y = n * 400 / 146097 in cond (leb (year_start (y + 1)) n) (y + 1) y

-- "Month lengths are a table with one row for ordinary years and one for leap years"
abbrev pub months : List (List ℕ)
months = (31 ∷ 28 ∷ 31 ∷ 30 ∷ 31 ∷ 30 ∷ 31 ∷ 31 ∷ 30 ∷ 31 ∷ 30 ∷ 31 ∷ []) ∷ (31 ∷ 29 ∷ 31 ∷ 30 ∷ 31 ∷ 30 ∷ 31 ∷ 31 ∷ 30 ∷ 31 ∷ 30 ∷ 31 ∷ []) ∷ []

unfoldable pub row : ℕ → List ℕ
row k = get_or months k []

-- the sum of the first i lengths
abbrev pub up_to : List ℕ → ℕ → ℕ
up_to ls zero = 0
up_to [] (suc i) = 0
up_to (l ∷ ls) (suc i) = l + up_to ls i

-- how many whole lengths stand before the d-th day
abbrev pub months_to : List ℕ → ℕ → ℕ
months_to [] d = 0
months_to (l ∷ ls) d = cond (leb d l) 0 (suc (months_to ls (d - l)))

-- the length of month m, or 0 for no month
unfoldable pub month_length : ℕ → ℕ → ℕ
month_length y m = cond (leb 1 m && leb m 12) (get_or (row (kind y)) (m - 1) 0) 0

-- "Gregorian, years 1 to 9999"
abbrev pub is_year : ℕ → Bool
is_year y = leb 1 y && leb y 9999

-- a date or a day of the year that the calendar has: any other is "a bad date"
unfoldable pub is_date : ℕ → ℕ → ℕ → Bool
is_date y m d = is_year y && leb 1 d && leb d (month_length y m)

unfoldable pub is_ordinal : ℕ → ℕ → Bool
is_ordinal y d = is_year y && leb 1 d && leb d (year_length y)

-- ---- the index of a day, and the day with an index
-- the index of the d-th day of year y
unfoldable pub day_index : ℕ → ℕ → ℕ
day_index y d = year_start (y - 1) + (d - 1)

-- which day of its year a date is
abbrev pub day_of_year : ℕ → ℕ → ℕ → ℕ
day_of_year y m d = up_to (row (kind y)) (m - 1) + d

-- the year and day of the year with index n
unfoldable pub ordinal_on : ℕ → Ordinal
ordinal_on n = record { year = years_to n + 1; day = n - year_start (years_to n) + 1 }

abbrev pub ymd : ℕ → ℕ → ℕ → Date
ymd y m d = record { year = y; month = m; day = d }

-- the date of a day of the year: the month that it falls in, and what the months before leave of it
unfoldable pub date_in : Ordinal → Date
date_in o = let ls = row (kind o.year) in ymd o.year (months_to ls o.day + 1) (o.day - up_to ls (months_to ls o.day))

-- "A bad date is 4, a day number outside them 7"
unfoldable pub index_of_date : ℕ → ℕ → ℕ → Outcome ℕ
index_of_date y m d = need (is_date y m d) 4 (done (day_index y (day_of_year y m d)))

unfoldable pub index_of_ordinal : ℕ → ℕ → Outcome ℕ
index_of_ordinal y d = need (is_ordinal y d) 4 (done (day_index y d))

unfoldable pub ordinal_at : ℕ → Outcome Ordinal
ordinal_at n = need (leb n 3652058) 7 (done (ordinal_on n))

abbrev pub date_at : ℕ → Outcome Date
date_at n = given date_in (ordinal_at n)

-- ---- "Day 0 is 1958-01-01", index 714,779
abbrev pub from_epoch : ℕ → ℤ
from_epoch n = sub_ℕ n 714779

-- "Day -714,779 is 0001-01-01; day 2,937,279 is 9999-12-31"
unfoldable pub index_of_day : ℤ → Outcome ℕ
index_of_day z = need (within (negsuc 714778) (pos 2937279) z) 7 (done (nat_abs (z +ℤ pos 714779)))

abbrev pub day_of_date : ℕ → ℕ → ℕ → Outcome ℤ
day_of_date y m d = given from_epoch (index_of_date y m d)

abbrev pub day_of_ordinal : ℕ → ℕ → Outcome ℤ
day_of_ordinal y d = given from_epoch (index_of_ordinal y d)

abbrev pub date_of_day : ℤ → Outcome Date
date_of_day z = and_then (index_of_day z) date_at

abbrev pub ordinal_of_day : ℤ → Outcome Ordinal
ordinal_of_day z = and_then (index_of_day z) ordinal_at

-- ---- what the promises say besides
-- the day after a date: in its month, or the first of the next month, or of the next year
abbrev pub next_date : Date → Date
next_date t =
    cond (ltb t.day (month_length t.year t.month)) (ymd t.year t.month (t.day + 1)) (cond (ltb t.month 12) (ymd t.year (t.month + 1) 1) (ymd (t.year + 1) 1 1))

-- by the year, then by the month, then by the day
abbrev pub earlier_date : Date → Date → Bool
earlier_date s t =
    cond (eqb s.year t.year) (cond (eqb s.month t.month) (ltb s.day t.day) (ltb s.month t.month)) (ltb s.year t.year)
