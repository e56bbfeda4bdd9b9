-- CCS, the calendar segmented time code (document 01, "The codes"): the moment of UTC that a T-field names, and the octets that write one. "All BCD: year (16 bits), date, hour, minute, second, fractions. UTC." Whether a table has the day (5) and the day the second (6) is judged above.
use Rattle.std.specs.Prelude.{◌≡◌, Bool, true, false, cond, List, ◌++◌, ℕ, ◌+◌, ◌-◌, ◌*◌, ◌/◌, ◌%◌, ◌^◌, leb, ℤ, length}
use Rattle.base.specs.Outcome.{Outcome, done, need, and_then, given}
use Rattle.scale.specs.Time.{per_second}
use Rattle.octets.specs.Places.{bcd}
use Rattle.octets.specs.Counts.{bcd_at}
use Rattle.calendar.specs.Gregorian.{day_of_date, day_of_ordinal, date_of_day, ordinal_of_day}
use Rattle.calendar.specs.declared.Date.{Date}
use Rattle.calendar.specs.declared.Ordinal.{Ordinal}
use Rattle.clock.specs.Clock.{clock_of, minute_of}
use Rattle.moment.specs.Decimal as D
use Rattle.moment.specs.Moment.{moment, is_moment}
use Rattle.moment.specs.declared.Moment.{Moment}
use Rattle.ccs.specs.declared.Layout.{Layout}
use Rattle.base.specs.Said.{said}

-- "0 to 6 extra segments of two decimal digits; 7 refused"
abbrev pub is_layout : Layout → Bool
is_layout l = leb l.segments 6

-- year, date and clock take seven octets, and each segment one
unfoldable pub width : Layout → ℕ
width l = cond (is_layout l) (7 + l.segments) 0

-- ---- the fields
-- the number in w octets of two decimal digits: a digit over 9 is 4
abbrev pub pairs : List ℕ → ℕ → ℕ → Outcome ℕ
pairs s at w = said (bcd_at s at w)

-- "Bit 4: 0 month and day, 1 day of year (16 bits, top four zero)": the day, from 1958-01-01, that a year and a date name; a bad date is 4
unfoldable pub day_at : Bool → List ℕ → ℕ → Outcome ℤ
day_at true s at = and_then (pairs s at 2) (λ y. and_then (pairs s (at + 2) 2) (λ d. day_of_ordinal y d))
day_at false s at = and_then (pairs s at 2) (λ y. and_then (pairs s (at + 2) 1) (λ m. and_then (pairs s (at + 3) 1) (λ d. day_of_date y m d)))

-- hour, minute and second
unfoldable pub clock_at : List ℕ → ℕ → Outcome ℕ
clock_at s at =
    and_then (pairs s at 1) (λ h.
    and_then (pairs s (at + 1) 1) (λ m.
    and_then (pairs s (at + 2) 1) (λ x.
    clock_of h m x)))

-- w segments hold a fraction of two digits each
abbrev pub ticks_of : ℕ → ℕ → ℕ
ticks_of w f = D.ticks_of (w * 2) f

-- ---- reading: "3, .. short T 1, 4"
unfoldable pub field : List ℕ → ℕ → Layout → Outcome Moment
field s at l =
    need (is_layout l) 3
    (need (leb (at + width l) (length s)) 1
    (and_then (day_at l.ordinal s at) (λ d.
    and_then (clock_at s (at + 4)) (λ x.
    and_then (pairs s (at + 7) l.segments) (λ f.
    done (moment d x (ticks_of l.segments f)))))))

-- the moments that a layout has a code for
abbrev pub Reads : Layout → Moment → Type 0
Reads l m = (s : List ℕ) × (field s 0 l ≡ done m)

-- ---- writing
-- the year and the date of a day; outside the calendar 7
abbrev pub ordinal_text : Ordinal → List ℕ
ordinal_text o = bcd 2 o.year ++ bcd 2 o.day

abbrev pub month_text : Date → List ℕ
month_text t = bcd 2 t.year ++ (bcd 1 t.month ++ bcd 1 t.day)

unfoldable pub date_text : Bool → ℤ → Outcome (List ℕ)
date_text true d = given ordinal_text (ordinal_of_day d)
date_text false d = given month_text (date_of_day d)

unfoldable pub clock_text : ℕ → List ℕ
clock_text n = bcd 1 (minute_of n / 60) ++ (bcd 1 (minute_of n % 60) ++ bcd 1 (n - minute_of n * 60))

-- "The writer takes the fraction downward"
abbrev pub part_of : ℕ → ℕ → ℕ
part_of w k = k / (per_second / 10 ^ (w * 2))

-- a layout that there is not is 3. A writer given a moment that is none, or whose day is outside the calendar, refuses 7; no call shows it
unfoldable pub bytes_of : Layout → Moment → Outcome (List ℕ)
bytes_of l m =
    need (is_layout l) 3
    (need (is_moment m) 7
    (and_then (date_text l.ordinal m.day) (λ date.
    done (date ++ (clock_text m.second ++ bcd l.segments (part_of l.segments m.ticks))))))
