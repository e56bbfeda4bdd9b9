-- Which moments have wanted fields (document 01, "Shortened tags"), by the fields that their own full codes show.
use Rattle.std.specs.Prelude.{Bool, true, false, ◌&&◌, map, ℕ, ◌+◌, ◌-◌, ◌*◌, ◌/◌, ◌%◌, eqb, leb, ℤ, Option, Some, None}
use Rattle.base.specs.Outcome.{Outcome, done, refused, need}
use Rattle.base.specs.Parts.{lowered_by}
use Rattle.calendar.specs.Gregorian.{ordinal_on, date_in}
use Rattle.leap.specs.Table.{Table, start, reading_at}
use Rattle.leap.specs.Utc.{second_raise}
use Rattle.leap.specs.declared.Reading.{Reading}
use Rattle.clock.specs.Clock.{minute_of}
use Rattle.window.specs.Window.{Named, named_in}
use Rattle.seek.specs.declared.Calendar.{Calendar}
use Rattle.seek.specs.declared.Clock.{Clock}
use Rattle.seek.specs.declared.Wants.{Wants}

-- a free field may be anything
abbrev pub may : Option ℕ → ℕ → Bool
may None n = true
may (Some v) n = eqb v n

-- the day with index n has the wanted fields of a date
unfoldable pub day_fits : Calendar → ℕ → Bool
day_fits c n =
    may c.year (ordinal_on n).year && (may c.month (date_in (ordinal_on n)).month && (may c.day (date_in (ordinal_on n)).day && may c.ordinal (ordinal_on n).day))

-- second x of a day has the wanted fields of a clock; 86,400 is 23:59:60
unfoldable pub clock_fits : Clock → ℕ → Bool
clock_fits k x = may k.hour (minute_of x / 60) && (may k.minute (minute_of x % 60) && may k.second (x - minute_of x * 60))

abbrev pub fits_reading : Wants → Outcome Reading → Bool
fits_reading t (done u) = day_fits t.calendar u.day && clock_fits t.clock u.second
fits_reading t (refused n) = false

-- a raised TAI second whose UTC reading has the wanted fields; a second outside the table has none
unfoldable pub names : Table → Wants → ℕ → Bool
names t g s = fits_reading g (reading_at t s)

-- the window lies in the cover: from its first second to the first one past it
unfoldable pub covers_window : Table → ℕ → ℕ → Bool
covers_window t from to = leb (start t t.first.day) from && leb to (start t (t.last + 1))

-- all that is named from `from` on and before `to`; a window that leaves the cover is 5
unfoldable pub list_of : Table → Wants → ℕ → ℕ → Outcome (Named ℤ)
list_of t g from to =
    need (covers_window t from to) 5 (done (record { ticks = g.ticks; all = map (lowered_by second_raise) (named_in (names t g) from to) }))
