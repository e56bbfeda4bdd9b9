-- A moment of UTC and the time that it is, by a leap second table (document 01, "The calendar and the table"): what CDS, CCS and ASCII have in common once their fields are read, and before they are written. For any table.
use Rattle.std.specs.Prelude.{◌≡◌, Bool, ◌&&◌, ◌+◌, ◌^◌, leb}
use Rattle.base.specs.Outcome.{Outcome, done, and_then, given}
use Rattle.scale.specs.Time.{Time}
use Rattle.leap.specs.Table.{Table, good, start}
use Rattle.leap.specs.Utc.{utc_of_second, second_of_utc}
use Rattle.moment.specs.Moment.{moment}
use Rattle.moment.specs.declared.Moment.{Moment}

-- the time of a moment: "a day outside the table 5, then 86,400 on a day without it 6"
unfoldable pub time_of : Table → Moment → Outcome Time
time_of t m = given (λ z. record { sec = z; ticks = m.ticks }) (second_of_utc t m.day m.second)

-- the moment of a time: a second that the table does not cover is 5
unfoldable pub moment_of : Table → Time → Outcome Moment
moment_of t r = given (λ u. moment u.day u.second r.ticks) (utc_of_second t r.sec)

-- what a code's fields say, by the table, and what a code makes of a time
abbrev pub read_by : Table → Outcome Moment → Outcome Time
read_by t o = and_then o (time_of t)

abbrev pub written_by : {A : Type 0} → Table → (Moment → Outcome A) → Time → Outcome A
written_by t code r = and_then (moment_of t r) code

-- a table that records and dates can be reckoned by: a good one, whose days are the calendar's and whose seconds are a record's
unfoldable pub reckons : Table → Bool
reckons t = good t && (leb t.last 3652058 && leb (start t (t.last + 1)) (2 ^ 41))

-- a time that some moment is which can be had
abbrev pub HadBy : Table → (Moment → Type 0) → Time → Type 0
HadBy t Has x = (m : Moment) × (Has m × (time_of t m ≡ done x))
