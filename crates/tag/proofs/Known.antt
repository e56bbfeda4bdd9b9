-- Each permitted form with the fields that it wants, and texts that are refused, by computation.
use mathlib.Core.Path.{◌≡◌, refl}
use mathlib.Core.List.{List, [], ◌∷◌, map}
use Prim.Native.Nat.{ℕ}
use lib.ListN.{replicate}
use Rattle.base.specs.Outcome.{done, refused}
use Rattle.calendar.specs.Gregorian.{kind, row, month_length, is_date, is_ordinal}
use Rattle.shape.specs.Quoted.{bytes}
use Rattle.seek.specs.declared.Wants.{Wants}
use Rattle.shape.specs.Shapes.{shape_of}
use Rattle.tag.specs.Forms.{days, months, hours, minutes}
use Rattle.tag.specs.Tags.{calendar_as, clock_as, unzoned, time_in, alone, joined, formed, good_day, good_clock, want_of}
use Rattle.std.specs.Prelude.{Option, Some, None}

abbrev wants : Option ℕ → Option ℕ → Option ℕ → Option ℕ → Option ℕ → Option ℕ → Option ℕ → ℕ → Wants
wants y m d o h i s k = record {
  calendar = record { year = y; month = m; day = d; ordinal = o };
  clock = record { hour = h; minute = i; second = s };
  ticks = k;
}

-- ---- calendars
calendars : List (List ℕ)
calendars = bytes "2016-12-31" ∷ bytes "-12-31" ∷ bytes "--31" ∷ bytes "2016-366" ∷ bytes "-366" ∷ bytes "2016-12" ∷ bytes "-12" ∷ bytes "2016" ∷ bytes "-02-29" ∷ []

abbrev date : Option ℕ → Option ℕ → Option ℕ → Option ℕ → Wants
date y m d o = wants y m d o (Some 0) (Some 0) (Some 0) 0

calendars_want : map want_of calendars ≡
    done (date (Some 2016) (Some 12) (Some 31) None) ∷
    done (date None (Some 12) (Some 31) None) ∷
    done (date None None (Some 31) None) ∷
    done (date (Some 2016) None None (Some 366)) ∷
    done (date None None None (Some 366)) ∷
    done (date (Some 2016) (Some 12) (Some 1) None) ∷
    done (date None (Some 12) (Some 1) None) ∷
    done (date (Some 2016) (Some 1) (Some 1) None) ∷
    done (date None (Some 2) (Some 29) None) ∷ []
unfolding calendars want_of formed alone calendar_as shape_of days months good_day good_clock is_date is_ordinal month_length kind row
calendars_want = refl

-- ---- times
times : List (List ℕ)
times = bytes "12" ∷ bytes "12:34" ∷ bytes "12:34:56" ∷ bytes "12:34:56.5" ∷ bytes ":34" ∷ bytes ":34:56" ∷ bytes ":34:56.5" ∷ bytes "::56" ∷ bytes "::56.5" ∷ bytes "::.5" ∷ bytes "::.000000000001" ∷ bytes "12Z" ∷ bytes "::.5Z" ∷ bytes "23:59:60" ∷ bytes ":59:60" ∷ bytes "::60" ∷ []

abbrev time : Option ℕ → Option ℕ → Option ℕ → ℕ → Wants
time h i s k = wants None None None None h i s k

times_want : map want_of times ≡
    done (time (Some 12) (Some 0) (Some 0) 0) ∷
    done (time (Some 12) (Some 34) (Some 0) 0) ∷
    done (time (Some 12) (Some 34) (Some 56) 0) ∷
    done (time (Some 12) (Some 34) (Some 56) 2048000000000000) ∷
    done (time None (Some 34) (Some 0) 0) ∷
    done (time None (Some 34) (Some 56) 0) ∷
    done (time None (Some 34) (Some 56) 2048000000000000) ∷
    done (time None None (Some 56) 0) ∷
    done (time None None (Some 56) 2048000000000000) ∷
    done (time None None None 2048000000000000) ∷
    done (time None None None 4096) ∷
    done (time (Some 12) (Some 0) (Some 0) 0) ∷
    done (time None None None 2048000000000000) ∷
    done (time (Some 23) (Some 59) (Some 60) 0) ∷
    done (time None (Some 59) (Some 60) 0) ∷
    done (time None None (Some 60) 0) ∷ []
unfolding times want_of formed alone time_in unzoned clock_as shape_of days months hours minutes good_day good_clock is_date is_ordinal month_length kind row
times_want = refl

-- ---- both
both : List (List ℕ)
both = bytes "-366T23:59:60" ∷ bytes "2016-12-31T23:59:60.5Z" ∷ bytes "2016-366T12" ∷ bytes "-12-31T12:34Z" ∷ bytes "--31T12:34:56" ∷ []

both_want : map want_of both ≡
    done (wants None None None (Some 366) (Some 23) (Some 59) (Some 60) 0) ∷
    done (wants (Some 2016) (Some 12) (Some 31) None (Some 23) (Some 59) (Some 60) 2048000000000000) ∷
    done (wants (Some 2016) None None (Some 366) (Some 12) (Some 0) (Some 0) 0) ∷
    done (wants None (Some 12) (Some 31) None (Some 12) (Some 34) (Some 0) 0) ∷
    done (wants None None (Some 31) None (Some 12) (Some 34) (Some 56) 0) ∷ []
unfolding both want_of formed joined time_in unzoned calendar_as clock_as shape_of days hours good_day good_clock is_date is_ordinal month_length kind row
both_want = refl

-- ---- refused with 4: fields out of their ranges, then texts of no permitted form
out : List (List ℕ)
out = bytes "-02-30" ∷ bytes "2023-366" ∷ bytes "2023-02-29" ∷ bytes "0000" ∷ bytes "-00" ∷ bytes "-13" ∷ bytes "--32" ∷ bytes "-000" ∷ bytes "24" ∷ bytes ":60" ∷ bytes "::61" ∷ bytes "12:58:60" ∷ bytes "22:59:60" ∷ bytes ":58:60" ∷ []

formless : List (List ℕ)
formless = bytes "-12T10" ∷ bytes "2016T12" ∷ bytes "--31T:10" ∷ bytes "2016-12-31T" ∷ bytes "T12" ∷ bytes "2016Z" ∷ bytes "Z" ∷ bytes "12Z5" ∷ bytes "12z" ∷ bytes "::" ∷ bytes "::." ∷ bytes "::.a" ∷ bytes "12.5" ∷ bytes ":34.5" ∷ bytes "12:34:56.1234567890123" ∷ bytes "2016-1-1" ∷ bytes "---31" ∷ []

out_refused : map want_of out ≡ replicate 14 (refused 4)
unfolding out want_of formed alone time_in unzoned calendar_as clock_as shape_of days months hours minutes good_day good_clock is_date is_ordinal month_length kind row
out_refused = refl

formless_refused : map want_of formless ≡ replicate 17 (refused 4)
unfolding formless want_of formed alone joined time_in unzoned shape_of days months hours minutes
formless_refused = refl

empty_refused : want_of [] ≡ refused 1
unfolding want_of
empty_refused = refl
