-- The same of signed numbers, as callers have them: TAI seconds and days counted from 1958-01-01, and TAI minus UTC itself.
use Rattle.std.specs.Prelude.{ℕ, ◌+◌, ◌*◌, leb, ℤ, pos, neg_ℤ, nat_abs, ◌+ℤ◌}
use Rattle.std.specs.Int.Signed.{le_z}
use Rattle.base.specs.Outcome.{Outcome, done, need, and_then, given}
use Rattle.base.specs.Parts.{lowered_by}
use Rattle.leap.specs.Table.{Table, second_at, reading_at}
use Rattle.leap.specs.declared.Reading.{Reading}
use Rattle.leap.specs.declared.Utc.{Utc}

-- how far each is raised
abbrev pub day_raise : ℕ
day_raise = 714779

abbrev pub offset_raise : ℕ
offset_raise = 64

abbrev pub second_raise : ℕ
second_raise = 714779 * 86400 + 64

-- z raised by B; what stays negative lies before every table: 5
unfoldable pub lifted_by : ℕ → ℤ → Outcome ℕ
lifted_by B z = need (le_z (neg_ℤ (pos B)) z) 5 (done (nat_abs (z +ℤ pos B)))

-- the reading of a TAI second, and the TAI second of a day's second
unfoldable pub reading_of : Table → ℤ → Outcome Reading
reading_of t z = and_then (lifted_by second_raise z) (reading_at t)

unfoldable pub second_of : Table → ℕ → ℕ → Outcome ℤ
second_of t d x = given (lowered_by second_raise) (second_at t d x)

-- both of signed days
abbrev pub utc : Reading → Utc
utc r = record { day = lowered_by day_raise r.day; second = r.second; offset = lowered_by offset_raise r.offset }

unfoldable pub utc_of_second : Table → ℤ → Outcome Utc
utc_of_second t z = given utc (reading_of t z)

-- "a second of day over 86,400 is 4, then a day outside the table 5, then 86,400 on a day without it 6"
unfoldable pub second_of_utc : Table → ℤ → ℕ → Outcome ℤ
second_of_utc t d x = need (leb x 86400) 4 (and_then (lifted_by day_raise d) (λ n. second_of t n x))
