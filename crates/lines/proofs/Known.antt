-- The known lines of document 01, by computation.
use mathlib.Core.Path.{◌≡◌, refl}
use Rattle.base.specs.Parts.{within}
use Rattle.scale.specs.Time.{good}
use Rattle.calendar.specs.Gregorian.{kind, year_start, years_to, row, month_length, is_date, is_ordinal, day_index, ordinal_on, date_in, index_of_date, index_of_ordinal, index_of_day}
use Rattle.leap.specs.Table.{offset, start, day_length, covers, second_at, day_holding, covers_second, reading_at}
use Rattle.leap.specs.Builtin.{builtin}
use Rattle.leap.specs.Utc.{lifted_by, reading_of, second_of, utc_of_second, second_of_utc}
use Rattle.moment.specs.Moment.{is_moment}
use Rattle.utc.specs.Reckoning.{time_of, moment_of}
use Rattle.shape.specs.Quoted.{bytes}
use Rattle.shape.specs.Shapes.{shape_of, shaped}
use Rattle.ascii.specs.Shapes.{code_shapes}
use Rattle.ascii.specs.Ascii.{layout_of, day_at, clock_at, fields_of, text, day_text, clock_text, code_text, bytes_of}
use Rattle.codes.specs.Text.{letters}
use Rattle.lines.specs.Answer.{printed, outcome_of}
use Rattle.lines.specs.Split.{last_of, answers_from, answers}

-- "The program, given the lines 2016-12-31T23:59:60 and 2015-12-31T23:59:60, prints exactly the lines 2016-12-31T23:59:60.000Z and refused 6"
pub two_lines : answers builtin (bytes "2016-12-31T23:59:60\n2015-12-31T23:59:60\n") ≡ bytes "2016-12-31T23:59:60.000Z\nrefused 6\n"
unfolding answers_from last_of printed outcome_of text fields_of time_of moment_of letters is_moment index_of_day second_of_utc utc_of_second day_at clock_at layout_of shaped shape_of code_shapes index_of_date index_of_ordinal is_date is_ordinal month_length day_index year_start kind row second_of second_at covers day_length start offset builtin bytes_of code_text day_text clock_text ordinal_on years_to date_in reading_of lifted_by reading_at covers_second day_holding good within
two_lines = refl
