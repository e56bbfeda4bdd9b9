-- Texts read, texts refused and moments written, by computation, beside those of crate `known`.
use mathlib.Core.Path.{◌≡◌, refl}
use mathlib.Core.Bool.{true, false}
use mathlib.Core.List.{List, [], ◌∷◌, map}
use Prim.Native.Nat.{ℕ}
use lib.IntN.{pos, negsuc}
use Rattle.base.specs.Outcome.{done, refused}
use Rattle.base.specs.Parts.{within}
use Rattle.scale.specs.Time.{per_second}
use Rattle.calendar.specs.Gregorian.{kind, year_start, years_to, row, month_length, is_date, is_ordinal, day_index, ordinal_on, date_in, index_of_date, index_of_ordinal, index_of_day}
use Rattle.moment.specs.Moment.{moment, is_moment}
use Rattle.shape.specs.Quoted.{bytes}
use Rattle.shape.specs.Shapes.{shape_of, shaped}
use Rattle.ascii.specs.Shapes.{code_shapes}
use Rattle.ascii.specs.Ascii.{width, layout_of, day_at, clock_at, fields_of, text, day_text, clock_text, code_text, bytes_of}
use Rattle.ascii.proofs.Shapes.{lay}

-- a picosecond of 23:59:60; the first second of the calendar; 23:59:60 of a day that no table has
read_times : (text (bytes "2016-366T23:59:60.000000000001Z") ≡ done (moment (pos 21549) 86400 4096)) × (text (bytes "0001-01-01T00:00:00") ≡ done (moment (negsuc 714778) 0 0)) × (text (bytes "9999-12-31T23:59:60") ≡ done (moment (pos 2937279) 86400 0))
unfolding text fields_of day_at clock_at layout_of shaped shape_of code_shapes index_of_date index_of_ordinal is_date is_ordinal month_length day_index year_start kind row
read_times = (refl, refl, refl)

-- 1: empty. 4: 13 digits; a period and no digit; a lower-case z; a blank; a byte after Z; year 0; day 366 of an ordinary year; a slash
wrong : List (List ℕ)
wrong =
    bytes "" ∷
    bytes "2016-12-31T12:00:00.1234567890123" ∷
    bytes "2016-12-31T12:00:00." ∷
    bytes "2016-12-31T12:00:00z" ∷
    bytes " 2016-12-31T12:00:00" ∷
    bytes "2016-12-31T12:00:00Z0" ∷
    bytes "0000-12-31T12:00:00" ∷
    bytes "2015-366T12:00:00" ∷
    bytes "2016-12/31T12:00:00" ∷ []

refuse_wrong : map text wrong ≡ refused 1 ∷ refused 4 ∷ refused 4 ∷ refused 4 ∷ refused 4 ∷ refused 4 ∷ refused 4 ∷ refused 4 ∷ refused 4 ∷ []
unfolding wrong text fields_of day_at clock_at layout_of shaped shape_of code_shapes index_of_date index_of_ordinal is_date is_ordinal month_length day_index year_start kind row
refuse_wrong = refl

-- the last tick of a second is not rounded up; 23:59:60 in both forms
write_times : (bytes_of (lay false 3 true) (moment (pos 21549) 86400 4095999999999999) ≡ done (bytes "2016-12-31T23:59:60.999Z")) × (bytes_of (lay true 0 false) (moment (pos 21549) 86400 0) ≡ done (bytes "2016-366T23:59:60"))
unfolding bytes_of is_moment index_of_day within code_text day_text clock_text ordinal_on years_to date_in year_start kind row
write_times = (refl, refl)

-- 3: 13 digits, before a moment that is none. 7: no such second; no such ticks; the days before and after the calendar's
refuse_moments : (bytes_of (lay false 13 true) (moment (pos 0) 86401 0) ≡ refused 3) × (bytes_of (lay false 12 true) (moment (pos 0) 86401 0) ≡ refused 7) × (bytes_of (lay false 12 true) (moment (pos 0) 0 per_second) ≡ refused 7) × (bytes_of (lay true 3 true) (moment (negsuc 714779) 0 0) ≡ refused 7) × (bytes_of (lay true 3 true) (moment (pos 2937280) 0 0) ≡ refused 7)
unfolding bytes_of is_moment index_of_day within
refuse_moments = (refl, refl, refl, refl, refl)

widths : (width (lay true 0 false) ≡ 17) × (width (lay false 3 true) ≡ 24) × (width (lay false 12 true) ≡ 33) × (width (lay false 13 true) ≡ 0)
unfolding width
widths = (refl, refl, refl, refl)
