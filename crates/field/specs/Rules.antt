-- The rules of the fields of dates and clocks, each by itself (document 01, "The calendar and the table", "The codes"). A rule that speaks of earlier fields is judged after them: "For a day that its month lacks it is the day, for a second 60 outside 23:59 the second" (document 02, request 3).
use Rattle.std.specs.Prelude.{Bool, ◌&&◌, ◌||◌, List, [], ◌∷◌, ℕ, leb, ltb, eqb}
use Rattle.calendar.specs.Gregorian.{is_year, year_length, month_length}
use Rattle.field.specs.Fields.{Field, field}

abbrev pub is_month : ℕ → Bool
is_month m = leb 1 m && leb m 12

-- a day of month m of year y, and one of year y
abbrev pub is_day : ℕ → ℕ → ℕ → Bool
is_day y m d = leb 1 d && leb d (month_length y m)

abbrev pub is_day_of_year : ℕ → ℕ → Bool
is_day_of_year y d = leb 1 d && leb d (year_length y)

abbrev pub is_hour : ℕ → Bool
is_hour h = ltb h 24

abbrev pub is_minute : ℕ → Bool
is_minute m = ltb m 60

-- "Second 60 is a good field only at 23:59"
abbrev pub is_second : ℕ → ℕ → ℕ → Bool
is_second h m s = ltb s 60 || (eqb s 60 && (eqb h 23 && eqb m 59))

-- year, month and day that begin at a, b and c; year and day of the year; hour, minute and second
abbrev pub date_fields : ℕ → ℕ → ℕ → ℕ → ℕ → ℕ → List Field
date_fields a b c y m d = field a (is_year y) ∷ field b (is_month m) ∷ field c (is_day y m d) ∷ []

abbrev pub ordinal_fields : ℕ → ℕ → ℕ → ℕ → List Field
ordinal_fields a b y d = field a (is_year y) ∷ field b (is_day_of_year y d) ∷ []

abbrev pub clock_fields : ℕ → ℕ → ℕ → ℕ → ℕ → ℕ → List Field
clock_fields a b c h m s = field a (is_hour h) ∷ field b (is_minute m) ∷ field c (is_second h m s) ∷ []
