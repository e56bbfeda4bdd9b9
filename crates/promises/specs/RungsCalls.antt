-- The rungs of each call of the C interface, by any table.
use Rattle.std.specs.Prelude.{List}
use Rattle.leap.specs.Table.{Table}
use Rattle.pfield.specs.PField.{octet}
use Rattle.codes.specs.Writing.{from}
use Rattle.promises.specs.Promises.{Call, difference, shift, day_of_date, date_of_day, day_of_ordinal, ordinal_of_day, utc_of_second, second_of_utc, read_binary, write_binary, read_ascii, write_ascii, write_wall, list_cuc, list_ascii, rate, rates, receiver_make, receive}
use Rattle.promises.specs.Rungs.{Rung}
use Rattle.promises.specs.RungsScale.{difference_rungs, shift_rungs}
use Rattle.promises.specs.RungsDrift.{rate_rungs, rates_rungs}
use Rattle.promises.specs.RungsCalendar.{day_of_date_rungs, day_of_ordinal_rungs, date_of_day_rungs, ordinal_of_day_rungs, utc_of_second_rungs, second_of_utc_rungs}
use Rattle.promises.specs.RungsAscii.{read_ascii_rungs, write_ascii_rungs, write_wall_rungs}
use Rattle.promises.specs.RungsBinary.{read_binary_rungs, write_binary_rungs}
use Rattle.promises.specs.RungsTags.{list_cuc_rungs, list_ascii_rungs}
use Rattle.promises.specs.RungsReceiver.{receiver_make_rungs, receive_rungs}

abbrev pub rungs_of : Table → Call → List Rung
rungs_of t (difference a b) = difference_rungs a b
rungs_of t (shift r s) = shift_rungs r s
rungs_of t (day_of_date y m d) = day_of_date_rungs y m d
rungs_of t (date_of_day z) = date_of_day_rungs z
rungs_of t (day_of_ordinal y d) = day_of_ordinal_rungs y d
rungs_of t (ordinal_of_day z) = ordinal_of_day_rungs z
rungs_of t (utc_of_second z) = utc_of_second_rungs t z
rungs_of t (second_of_utc d x) = second_of_utc_rungs t d x
rungs_of t (read_binary s front p e) = read_binary_rungs t s (from front (octet p)) e
rungs_of t (write_binary r front p e out) = write_binary_rungs t r p e front out
rungs_of t (read_ascii s) = read_ascii_rungs t s
rungs_of t (write_ascii r l out) = write_ascii_rungs t l r out
rungs_of t (write_wall r out) = write_wall_rungs t r out
rungs_of t (list_cuc s front p e since before) = list_cuc_rungs s (from front (octet p)) e since before
rungs_of t (list_ascii s since before) = list_ascii_rungs t s since before
rungs_of t (rate p q) = rate_rungs p q
rungs_of t (rates run) = rates_rungs run
rungs_of t (receiver_make p e) = receiver_make_rungs p e
rungs_of t (receive r piece room) = receive_rungs r piece room
