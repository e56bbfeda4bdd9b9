-- Shortened ASCII tags (document 01, "Shortened tags"): the fields that a text wants, and their ranges.
use Rattle.std.specs.Prelude.{Bool, true, false, cond, not, ◌&&◌, List, [], ◌∷◌, ◌++◌, ℕ, suc, ◌+◌, ltb, leb, eqb, length, take, drop, Option, Some, None}
use Rattle.std.specs.Option.{unwrap_or}
use Rattle.base.specs.Outcome.{Outcome, done, refused, need, and_then, given}
use Rattle.octets.specs.Places.{decimal_of, all_good, digit_good}
use Rattle.calendar.specs.Gregorian.{is_date, is_ordinal}
use Rattle.clock.specs.Clock.{clock_ok}
use Rattle.moment.specs.Decimal.{ticks_of}
use Rattle.ascii.specs.Ascii.{number_at}
use Rattle.seek.specs.declared.Calendar.{Calendar}
use Rattle.seek.specs.declared.Clock.{Clock}
use Rattle.seek.specs.declared.Wants.{Wants}
use Rattle.tag.specs.Forms.{Place, free, lowest, at, Form, Forms, days, months, hours, minutes, find}

-- ---- fields
-- what is wanted of a field of w digits whose lowest value is given
abbrev pub want_at : List ℕ → ℕ → ℕ → Place → Option ℕ
want_at s w low free = None
want_at s w low lowest = Some low
want_at s w low (at i) = Some (number_at s i w)

unfoldable pub calendar_as : List ℕ → Form → Calendar
calendar_as s f =
    record { year = want_at s 4 1 f.first; month = want_at s 2 1 f.second; day = want_at s 2 1 f.third; ordinal = want_at s 3 1 f.fourth }

unfoldable pub clock_as : List ℕ → Form → Clock
clock_as s f = record { hour = want_at s 2 0 f.first; minute = want_at s 2 0 f.second; second = want_at s 2 0 f.third }

-- ---- times
-- where a character first stands, or the length of the text
abbrev pub until : ℕ → List ℕ → ℕ
until c [] = 0
until c (b ∷ s) = cond (eqb b c) 0 (suc (until c s))

abbrev pub is_free : Place → Bool
is_free free = true
is_free lowest = false
is_free (at i) = false

abbrev pub is_lowest : Place → Bool
is_lowest free = false
is_lowest lowest = true
is_lowest (at i) = false

-- the ticks of what follows a time whose second is at a place: nothing, but something after "::"; or a period and 1 to 12 digits, but not after hh or mm
abbrev pub fraction_as : Place → List ℕ → Outcome ℕ
fraction_as p [] = need (not (is_free p)) 4 (done 0)
fraction_as p (b ∷ ds) =
    need (not (is_lowest p) && (leb 1 (length ds) && (leb (length ds) 12 && all_good digit_good ds (length ds)))) 4
    (done (ticks_of (length ds) (decimal_of ds (length ds))))

-- a clock and a tick count
pub record Daytime : Type 0 where
  pub clock : Clock
  pub ticks : ℕ

abbrev pub daytime : Clock → ℕ → Daytime
daytime k n = record { clock = k; ticks = n }

-- a time of one of the forms, and its fraction
unfoldable pub unzoned : Forms → List ℕ → Outcome Daytime
unzoned fs s =
    let p = until 46 s in
    and_then (find fs (take p s)) (λ f. given (daytime (clock_as (take p s) f)) (fraction_as f.third (drop p s)))

-- "Z only after a time": nothing follows it
unfoldable pub time_in : Forms → List ℕ → Outcome Daytime
time_in fs s = let e = until 90 s in need (leb (length s) (e + 1)) 4 (unzoned fs (take e s))

-- ---- tags
abbrev pub tag : Calendar → Daytime → Wants
tag c k = record { calendar = c; clock = k.clock; ticks = k.ticks }

-- "A calendar alone means 00:00:00; a time alone leaves the date free"
abbrev pub midnight : Daytime
midnight = daytime (record { hour = Some 0; minute = Some 0; second = Some 0 }) 0

abbrev pub any_day : Calendar
any_day = record { year = None; month = None; day = None; ordinal = None }

abbrev pub alone_by : List ℕ → Outcome Form → Outcome Wants
alone_by s (done f) = done (tag (calendar_as s f) midnight)
alone_by s (refused n) = given (tag any_day) (time_in (hours ++ minutes) s)

unfoldable pub alone : List ℕ → Outcome Wants
alone s = alone_by s (find (days ++ months) s)

-- "Joined by T, the calendar must reach its day and the time must begin at hh"
unfoldable pub joined : List ℕ → List ℕ → Outcome Wants
joined c k = and_then (find days c) (λ f. given (tag (calendar_as c f)) (time_in hours k))

unfoldable pub formed : List ℕ → Outcome Wants
formed s = let t = until 84 s in cond (ltb t (length s)) (joined (take t s) (drop (t + 1) s)) (alone s)

-- ---- ranges
-- "Month and day that no year has, as -02-30, are 4; so is a full date its own year lacks": 2000 is a leap year and January has 31 days, so with them stands every day that some year or some month has
abbrev pub good_day_by : Calendar → Option ℕ → Bool
good_day_by c None = is_date (unwrap_or c.year 2000) (unwrap_or c.month 1) (unwrap_or c.day 1)
good_day_by c (Some o) = is_ordinal (unwrap_or c.year 2000) o

unfoldable pub good_day : Calendar → Bool
good_day c = good_day_by c c.ordinal

-- "A present second 60 needs a present minute to be 59 and a present hour 23"
unfoldable pub good_clock : Clock → Bool
good_clock k = clock_ok (unwrap_or k.hour 23) (unwrap_or k.minute 59) (unwrap_or k.second 0)

abbrev pub good_tag : Wants → Bool
good_tag t = good_day t.calendar && good_clock t.clock

-- what a text wants: "ASCII is empty" 1; "a field .. character or length breaks its rule" 4
unfoldable pub want_of : List ℕ → Outcome Wants
want_of s = need (leb 1 (length s)) 1 (and_then (formed s) (λ t. need (good_tag t) 4 (done t)))
