-- The one statement: each line of the table answers what it says, by computation.
use mathlib.Core.Path.{◌≡◌, refl}
use mathlib.Core.List.{map}
use Rattle.base.specs.Parts.{within}
use Rattle.scale.specs.Time.{good}
use Rattle.octets.specs.Counts.{count_of}
use Rattle.octets.specs.Stores.{pasted}
use Rattle.octets.specs.Writes.{roomed}
use Rattle.calendar.specs.Gregorian.{kind, year_start, years_to, row, month_length, is_date, is_ordinal, day_index, ordinal_on, date_in, index_of_date, index_of_ordinal, ordinal_at, index_of_day}
use Rattle.leap.specs.Table.{offset, start, day_length, covers, second_at, day_holding, covers_second, reading_at}
use Rattle.leap.specs.Builtin.{builtin}
use Rattle.leap.specs.Utc.{lifted_by, reading_of, second_of, utc_of_second, second_of_utc}
use Rattle.moment.specs.Moment.{is_moment}
use Rattle.utc.specs.Reckoning.{time_of, moment_of}
use Rattle.window.specs.Seconds.{first_second}
use Rattle.window.specs.Window.{listed, list_filled, named_in, filter, cons_if, range, up}
use Rattle.counter.specs.Counter.{names}
use Rattle.cuc.specs.Cuc as U
use Rattle.cds.specs.Cds as D
use Rattle.ccs.specs.Ccs as C
use Rattle.shape.specs.Shapes.{shape_of, shaped}
use Rattle.ascii.specs.Shapes.{code_shapes}
use Rattle.ascii.specs.Ascii as A
use Rattle.pfield.specs.PField.{allows, laid, laid_as, cuc_laid, cds_laid, ccs_laid, headed_of}
use Rattle.codes.specs.Reading.{scan_in, scan_of}
use Rattle.codes.specs.Writing.{write_of}
use Rattle.codes.specs.Text.{letters}
use Rattle.listing.specs.Records.{start_at, moments_in}
use Rattle.listing.specs.CucTag.{tag_with, tag_in, periodic_of, list_periodic, list_cuc}
use Rattle.known.specs.Known.{Line, answer, table}

pub known_times : map (λ (l : Line). answer l.call) table ≡ map (λ (l : Line). l.says) table
unfolding table
    within good count_of pasted roomed
    kind year_start years_to row month_length is_date is_ordinal day_index ordinal_on date_in index_of_date index_of_ordinal ordinal_at index_of_day
    offset start day_length covers second_at day_holding covers_second reading_at builtin lifted_by reading_of second_of utc_of_second second_of_utc
    U.is_width U.width U.field U.holds U.in_octets U.bytes_of
    is_moment time_of moment_of letters
    D.is_width D.width D.moment_by D.field D.held D.in_octets D.bytes_of
    C.width C.day_at C.clock_at C.field C.date_text C.clock_text C.bytes_of
    shaped shape_of code_shapes A.layout_of A.day_at A.clock_at A.fields_of A.text A.day_text A.clock_text A.code_text A.bytes_of
    allows laid laid_as cuc_laid cds_laid ccs_laid headed_of scan_in scan_of write_of
    listed list_filled first_second names named_in filter cons_if range up start_at moments_in tag_with tag_in periodic_of list_periodic list_cuc
known_times = refl
