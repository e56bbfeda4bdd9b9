-- The refusals of document 01, "Refusal numbers", and those that document 02 adds to them: the one place that gives each its number.
use Rattle.std.specs.Prelude.{ℕ}
use Rattle.base.specs.declared.Refusal.{Refusal}
use Rattle.base.specs.declared.Refusal.TheVariants.{Short, Identification, Unsupported, Field, Uncovered, NoSuchSecond, Range, Room, Window, NotElapsed, OffGrid}

abbrev pub number : Refusal → ℕ
-- binary bytes run out, or ASCII is empty
number Short = 1
-- identification 000, 011, 110, 111; in a listing any but CUC
number Identification = 2
-- extension bit set, CDS 11, CCS 7, a writer's digits over 12
number Unsupported = 3
-- a field, BCD digit, character or length breaks its rule
number Field = 4
-- UTC day outside the table
number Uncovered = 5
-- a second 60, or a millisecond from 86,400,000, on a day without one
number NoSuchSecond = 6
-- invalid record, span or epoch; a sum or a day number out of range; the target can't hold it
number Range = 7
-- output too short
number Room = 8
-- the window's end before its start
number Window = 9
-- document 02, request 1: ground elapsed zero or negative
number NotElapsed = 10
-- document 02, request 1: a record off the 2^-24 s grid
number OffGrid = 11
