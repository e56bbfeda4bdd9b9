-- The built-in table by document 01's own dates, and its rule.
use Rattle.std.specs.Prelude.{ℕ, ◌+◌, Bool, true, false, ◌&&◌, ◌||◌, List, [], ◌∷◌, eqb}
use Rattle.base.specs.Outcome.{Outcome, done, refused, given}
use Rattle.calendar.specs.Gregorian.{index_of_date, date_at}
use Rattle.calendar.specs.declared.Date.{Date}
use Rattle.leap.specs.declared.Row.{Row}

-- "TAI minus UTC, from the UTC date named": a year, a month whose first it is, and the offset
pub record NamedDate : Type 0 where
  pub year : ℕ
  pub month : ℕ
  pub offset : ℕ

abbrev pub since : ℕ → ℕ → ℕ → NamedDate
since y m o = record { year = y; month = m; offset = o }

abbrev pub dated : List NamedDate
dated =
    since 1972 1 10 ∷
    since 1972 7 11 ∷
    since 1973 1 12 ∷
    since 1974 1 13 ∷
    since 1975 1 14 ∷
    since 1976 1 15 ∷
    since 1977 1 16 ∷
    since 1978 1 17 ∷
    since 1979 1 18 ∷
    since 1980 1 19 ∷
    since 1981 7 20 ∷
    since 1982 7 21 ∷
    since 1983 7 22 ∷
    since 1985 7 23 ∷
    since 1988 1 24 ∷
    since 1990 1 25 ∷
    since 1991 1 26 ∷
    since 1992 7 27 ∷
    since 1993 7 28 ∷
    since 1994 7 29 ∷
    since 1996 1 30 ∷
    since 1997 7 31 ∷
    since 1999 1 32 ∷
    since 2006 1 33 ∷
    since 2009 1 34 ∷
    since 2012 7 35 ∷
    since 2015 7 36 ∷
    since 2017 1 37 ∷ []

abbrev pub row_on : NamedDate → Outcome Row
row_on p = given (λ n. record { day = n; offset = p.offset + 64 }) (index_of_date p.year p.month 1)

-- "each row after the first falls on a 1 January or a 1 July and adds one"
abbrev pub on_half_year : Outcome Date → Bool
on_half_year (done t) = eqb t.day 1 && (eqb t.month 1 || eqb t.month 7)
on_half_year (refused n) = false

abbrev pub follows : Row → Row → Bool
follows r r' = eqb r'.offset (r.offset + 1) && on_half_year (date_at r'.day)

-- a test of neighbours, over a whole table
abbrev pub neighbours : (Row → Row → Bool) → List Row → Bool
neighbours f [] = true
neighbours f (r ∷ []) = true
neighbours f (r ∷ r' ∷ rs) = f r r' && neighbours f (r' ∷ rs)
