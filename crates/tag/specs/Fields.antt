-- The fields that stand in a shortened ASCII tag, each with its rule (document 02, request 3). A field begins at its first digit, and not at the separator before it.
use Rattle.std.specs.Prelude.{Bool, cond, List, [], ◌∷◌, ◌++◌, ℕ, ◌+◌, ltb, length, take, drop, Option, Some, None}
use Rattle.std.specs.Option.{unwrap_or}
use Rattle.base.specs.Outcome.{Outcome, done, refused}
use Rattle.calendar.specs.Gregorian.{is_year}
use Rattle.field.specs.Fields.{Field, field}
use Rattle.field.specs.Rules.{is_month, is_day, is_day_of_year, is_hour, is_minute, is_second}
use Rattle.seek.specs.declared.Calendar.{Calendar}
use Rattle.seek.specs.declared.Clock.{Clock}
use Rattle.tag.specs.Forms.{Place, free, lowest, at, Form, Forms, days, months, hours, minutes, find}
use Rattle.tag.specs.Tags.{calendar_as, clock_as, until}

-- a field that stands in the text, which begins `from` bytes after the input, and those behind it: one that was dropped is none
abbrev pub there : ℕ → Place → Bool → List Field → List Field
there from free b fs = fs
there from lowest b fs = fs
there from (at i) b fs = field (from + i) b ∷ fs

-- year, month and day, or year and day of the year. "Month and day that no year has, as -02-30, are 4; so is a full date its own year lacks": without its year a date is judged in a leap year, and without its month in January
abbrev pub calendar_by : Form → Calendar → Option ℕ → List Field
calendar_by f c None =
    let y = unwrap_or c.year 2000 in
    let m = unwrap_or c.month 1 in
    there 0 f.first (is_year y) (there 0 f.second (is_month m) (there 0 f.third (is_day y m (unwrap_or c.day 1)) []))
calendar_by f c (Some o) =
    let y = unwrap_or c.year 2000 in
    there 0 f.first (is_year y) (there 0 f.fourth (is_day_of_year y o) [])

unfoldable pub calendar_fields : List ℕ → Form → List Field
calendar_fields s f = calendar_by f (calendar_as s f) (calendar_as s f).ordinal

-- hour, minute and second: "A present second 60 needs a present minute to be 59 and a present hour 23"
abbrev pub clock_by : ℕ → Form → Clock → List Field
clock_by from f k =
    let h = unwrap_or k.hour 23 in
    let m = unwrap_or k.minute 59 in
    there from f.first (is_hour h) (there from f.second (is_minute m) (there from f.third (is_second h m (unwrap_or k.second 0)) []))

unfoldable pub clock_fields : ℕ → List ℕ → Form → List Field
clock_fields from s f = clock_by from f (clock_as s f)

-- a time of one of the forms, up to its period or Z: the digits of a fraction have no rule
abbrev pub form_fields : (Form → List Field) → Outcome Form → List Field
form_fields g (done f) = g f
form_fields g (refused n) = []

unfoldable pub head_fields : Forms → ℕ → List ℕ → List Field
head_fields fs from s = let h = take (until 46 s) s in form_fields (clock_fields from h) (find fs h)

unfoldable pub time_fields : Forms → ℕ → List ℕ → List Field
time_fields fs from s = head_fields fs from (take (until 90 s) s)

-- a calendar and a time, or one of the two
unfoldable pub joint_fields : ℕ → List ℕ → List ℕ → List Field
joint_fields from c k = form_fields (λ f. calendar_fields c f ++ time_fields hours from k) (find days c)

abbrev pub alone_by : List ℕ → Outcome Form → List Field
alone_by s (done f) = calendar_fields s f
alone_by s (refused n) = time_fields (hours ++ minutes) 0 s

unfoldable pub alone_fields : List ℕ → List Field
alone_fields s = alone_by s (find (days ++ months) s)

-- the fields of a text of permitted form: none of any other
unfoldable pub fields_of : List ℕ → List Field
fields_of s = let t = until 84 s in cond (ltb t (length s)) (joint_fields (t + 1) (take t s) (drop (t + 1) s)) (alone_fields s)
