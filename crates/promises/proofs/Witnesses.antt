-- No promise is vacuous: for each code a source, a setting and room that meet the premises and are written, and each kind of refusal; by computation.
use mathlib.Core.Path.{◌≡◌, refl}
use mathlib.Core.Bool.{Bool, true, false, ◌&&◌}
use mathlib.Core.List.{List, [], ◌∷◌, map}
use Prim.Native.Nat.{ℕ, ◌-◌, ◌^◌}
use lib.Dec.{lit≤}
use lib.IntN.{ℤ, pos, negsuc}
use lib.ListN.{replicate}
use lib.Signed.{le_z, lt_z}
use Rattle.base.specs.Outcome.{Outcome, done, refused, given, status}
use Rattle.base.specs.Parts.{within}
use Rattle.scale.specs.Time.{Time, good}
use Rattle.drift.specs.Rate.{Pair, quotient_of}
use Rattle.octets.specs.Counts.{count_of}
use Rattle.octets.specs.Writes.{roomed}
use Rattle.calendar.specs.Gregorian.{kind, year_start, years_to, row, month_length, is_date, is_ordinal, day_index, ordinal_on, date_in, index_of_date, index_of_ordinal, index_of_day, ordinal_at}
use Rattle.leap.specs.Table.{offset, start, day_length, covers, second_at, day_holding, covers_second, reading_at}
use Rattle.leap.specs.Builtin.{row_of, builtin}
use Rattle.leap.specs.declared.Utc.{Utc}
use Rattle.leap.specs.Utc as L
use Rattle.moment.specs.Moment.{is_moment}
use Rattle.utc.specs.Reckoning.{time_of, moment_of}
use Rattle.utc.proofs.Builtin.{builtin_reckons}
use Rattle.cuc.specs.Cuc as U
use Rattle.cds.specs.Cds as D
use Rattle.ccs.specs.Ccs as C
use Rattle.shape.specs.Quoted.{bytes}
use Rattle.shape.specs.Shapes.{shape_of, shaped}
use Rattle.ascii.specs.Shapes.{code_shapes}
use Rattle.ascii.specs.Ascii as A
use Rattle.ascii.specs.declared.Layout.{Layout}
use Rattle.pfield.specs.PField.{octet, headed_of, allows, laid_as, laid, cuc_laid, cds_laid, ccs_laid}
use Rattle.codes.specs.Reading.{scan_in, scan_of}
use Rattle.codes.specs.Writing.{write_of}
use Rattle.codes.specs.Text.{letters as lettersOf}
use Rattle.codes.specs.Setting.{written}
use Rattle.codes.specs.declared.setting.Setting.{Setting}
use Rattle.codes.specs.declared.setting.Setting.TheVariants.{Binary, Ascii}
use Rattle.pfield.specs.declared.Preamble.TheVariants.{Front}
use Rattle.receiver.specs.Receiver.{holding, is_state, layout_of, feed_of}
use Rattle.receiver.specs.declared.Receiver.{Receiver}
use Rattle.window.specs.Among.{Among, here}
use Rattle.window.specs.Seconds.{first_second}
use Rattle.window.specs.Window.{listed, named_in, filter, cons_if, range, up}
use Rattle.counter.specs.Counter.{names as counted}
use Rattle.seek.specs.Naming.{day_fits, clock_fits, names}
use Rattle.tag.specs.Forms.{days, months, hours, minutes}
use Rattle.tag.specs.Tags.{calendar_as, clock_as, unzoned, time_in, alone, joined, formed, good_day, good_clock, want_of}
use Rattle.listing.specs.Records.{start_at, moments_in}
use Rattle.listing.specs.CucTag as K
use Rattle.listing.specs.AsciiTag as AsciiTag
use Rattle.promises.specs.Promises as P
use Rattle.promises.specs.RungsCalendar.{covered_day, covered_second, has_second}
use Rattle.promises.specs.Promises.{Call, outcome_of, read_under, OfSetting, Yields, Ready, Holds, counter, list_by}
use Rattle.promises.proofs.Promises.{written_latest, writes_exactly}

abbrev time : ℤ → ℕ → Time
time s n = record { sec = s; ticks = n }

-- 2016-12-31T23:59:60, and a tick more, which no setting below holds
abbrev leap : Time
leap = time (pos 1861920036) 0

abbrev source : Time
source = time (pos 1861920036) 1

-- a source that is ready to be written into 40 bytes, and is: the code is of the setting and reads to the leap second
abbrev room : List ℕ
room = replicate 40 7

record Witness (setting : Setting) (code : List ℕ) : Type 0 where
  ready : Ready source setting room
  written_as : written builtin source setting room ≡ done code
  own : OfSetting setting code
  reads : read_under builtin setting code ≡ done leap

abbrev letters : Bool → ℕ → Bool → Setting
letters b d z = Ascii (record { ordinal = b; digits = d; zone = z })

-- CUC, CDS and CCS, the P octet in front or apart, by a caller's epoch or not; ASCII A and B
cuc : Witness (Binary (octet 0x1c) (pos 0) true) (0x1c ∷ 0x6e ∷ 0xfa ∷ 0xa5 ∷ 0x24 ∷ [])
unfolding good within allows laid laid_as cuc_laid cds_laid ccs_laid headed_of scan_in scan_of write_of roomed count_of U.is_width U.width U.field U.holds U.in_octets U.bytes_of
cuc = record { ready = record { source = refl; settings = (_, refl); room = lit≤ tt }; written_as = refl; own = refl; reads = refl }

cuc_apart : Witness (Binary (octet 0x22) (pos 1861920000) false) (36 ∷ 0 ∷ 0 ∷ [])
unfolding good within allows laid laid_as cuc_laid cds_laid ccs_laid headed_of scan_in scan_of write_of roomed count_of U.is_width U.width U.field U.holds U.in_octets U.bytes_of
cuc_apart = record { ready = record { source = refl; settings = (_, refl); room = lit≤ tt }; written_as = refl; own = tt; reads = refl }

cds : Witness (Binary (octet 0x40) (pos 0) true) (0x40 ∷ 0x54 ∷ 0x2d ∷ 0x05 ∷ 0x26 ∷ 0x5c ∷ 0x00 ∷ [])
unfolding good within allows laid laid_as cuc_laid cds_laid ccs_laid headed_of scan_in scan_of write_of roomed count_of D.is_width D.width D.moment_by D.field D.held D.in_octets D.bytes_of time_of moment_of is_moment L.utc_of_second L.reading_of L.lifted_by L.second_of_utc L.second_of reading_at covers_second day_holding second_at covers day_length start offset builtin
cds = record { ready = record { source = refl; settings = (_, refl); room = lit≤ tt }; written_as = refl; own = refl; reads = refl }

cds_apart : Witness (Binary (octet 0x49) (pos 21549) false) (0 ∷ 0 ∷ 0x05 ∷ 0x26 ∷ 0x5c ∷ 0x00 ∷ 0 ∷ 0 ∷ [])
unfolding good within allows laid laid_as cuc_laid cds_laid ccs_laid headed_of scan_in scan_of write_of roomed count_of D.is_width D.width D.moment_by D.field D.held D.in_octets D.bytes_of time_of moment_of is_moment L.utc_of_second L.reading_of L.lifted_by L.second_of_utc L.second_of reading_at covers_second day_holding second_at covers day_length start offset builtin
cds_apart = record { ready = record { source = refl; settings = (_, refl); room = lit≤ tt }; written_as = refl; own = tt; reads = refl }

ccs : Witness (Binary (octet 0x58) (pos 0) true) (0x58 ∷ 0x20 ∷ 0x16 ∷ 0x03 ∷ 0x66 ∷ 0x23 ∷ 0x59 ∷ 0x60 ∷ [])
unfolding good within allows laid laid_as cuc_laid cds_laid ccs_laid headed_of scan_in scan_of write_of roomed count_of C.width C.day_at C.clock_at C.field C.date_text C.clock_text C.bytes_of time_of moment_of is_moment L.utc_of_second L.reading_of L.lifted_by L.second_of_utc L.second_of reading_at covers_second day_holding second_at covers day_length start offset builtin kind year_start years_to row month_length is_date is_ordinal day_index ordinal_on date_in index_of_date index_of_ordinal index_of_day ordinal_at
ccs = record { ready = record { source = refl; settings = (_, refl); room = lit≤ tt }; written_as = refl; own = refl; reads = refl }

ccs_apart : Witness (Binary (octet 0x51) (pos 0) false) (0x20 ∷ 0x16 ∷ 0x12 ∷ 0x31 ∷ 0x23 ∷ 0x59 ∷ 0x60 ∷ 0 ∷ [])
unfolding good within allows laid laid_as cuc_laid cds_laid ccs_laid headed_of scan_in scan_of write_of roomed count_of C.width C.day_at C.clock_at C.field C.date_text C.clock_text C.bytes_of time_of moment_of is_moment L.utc_of_second L.reading_of L.lifted_by L.second_of_utc L.second_of reading_at covers_second day_holding second_at covers day_length start offset builtin kind year_start years_to row month_length is_date is_ordinal day_index ordinal_on date_in index_of_date index_of_ordinal index_of_day ordinal_at
ccs_apart = record { ready = record { source = refl; settings = (_, refl); room = lit≤ tt }; written_as = refl; own = tt; reads = refl }

ascii_a : Witness (letters false 3 true) (bytes "2016-12-31T23:59:60.000Z")
unfolding good within roomed A.width A.layout_of A.day_at A.clock_at A.fields_of A.text A.day_text A.clock_text A.code_text A.bytes_of lettersOf shaped shape_of code_shapes time_of moment_of is_moment L.utc_of_second L.reading_of L.lifted_by L.second_of_utc L.second_of reading_at covers_second day_holding second_at covers day_length start offset builtin kind year_start years_to row month_length is_date is_ordinal day_index ordinal_on date_in index_of_date index_of_ordinal index_of_day ordinal_at
ascii_a = record { ready = record { source = refl; settings = refl; room = lit≤ tt }; written_as = refl; own = refl; reads = refl }

ascii_b : Witness (letters true 0 false) (bytes "2016-366T23:59:60")
unfolding good within roomed A.width A.layout_of A.day_at A.clock_at A.fields_of A.text A.day_text A.clock_text A.code_text A.bytes_of lettersOf shaped shape_of code_shapes time_of moment_of is_moment L.utc_of_second L.reading_of L.lifted_by L.second_of_utc L.second_of reading_at covers_second day_holding second_at covers day_length start offset builtin kind year_start years_to row month_length is_date is_ordinal day_index ordinal_on date_in index_of_date index_of_ordinal index_of_day ordinal_at
ascii_b = record { ready = record { source = refl; settings = refl; room = lit≤ tt }; written_as = refl; own = refl; reads = refl }

-- so the target holds the source, and the code yields the latest time
yields : (setting : Setting) (code : List ℕ) → Witness setting code → Holds builtin setting source × ((m : Time) × Yields builtin setting source code m)
yields setting code w = ((writes_exactly builtin builtin_reckons setting source room w.ready).0 (code, w.written_as), written_latest builtin builtin_reckons setting source room code w.written_as)

-- ---- one scale: a later row of the table, and the two seconds
later_row : Among (row_of (record { day = 5295; offset = 11 })) builtin.later
unfolding builtin
later_row = here

abbrev utc : ℤ → ℕ → ℤ → Outcome Utc
utc d x o = done (record { day = d; second = x; offset = o })

two_seconds : (L.utc_of_second builtin (pos 1861920036) ≡ utc (pos 21549) 86400 (pos 36)) × (L.utc_of_second builtin (pos 1861920037) ≡ utc (pos 21550) 0 (pos 37))
unfolding L.utc_of_second L.reading_of L.lifted_by reading_at covers_second day_holding start offset builtin
two_seconds = (refl, refl)

-- ---- the built-in cover: "days 5113 (1972-01-01) to 24836 (2025-12-31)", "Covered TAI seconds are 441,763,210 to 2,145,916,836"; 2016-12-31 has 23:59:60, and 2017-01-01 has it not
cover : (z : ℤ) → (covered_day builtin z ≡ within (pos 5113) (pos 24836) z) × (covered_second builtin z ≡ le_z (pos 441763210) z && lt_z z (pos 2145916837)) × (has_second builtin (pos 21549) 86400 ≡ true) × (has_second builtin (pos 21550) 86400 ≡ false)
unfolding day_length start offset builtin
cover z = (refl, refl, refl, refl)

-- ---- outside: a CUC count that does not fit, a day before the epoch of CDS; a moment before the table's days
record Refusing (setting : Setting) (r : Time) (n : ℕ) : Type 0 where
  ready : Ready r setting room
  refuses : written builtin r setting room ≡ refused n

abbrev early : Time
early = time (pos 441763209) 0

outside : Refusing (Binary (octet 0x10) (pos 0) true) leap 7 × Refusing (Binary (octet 0x48) (pos 21550) true) leap 7 × Refusing (Binary (octet 0x40) (pos 0) true) early 5 × Refusing (Binary (octet 0x50) (pos 0) true) early 5 × Refusing (letters true 0 false) early 5
unfolding good within allows laid laid_as cuc_laid cds_laid ccs_laid headed_of scan_in scan_of write_of roomed count_of U.is_width U.width U.field U.holds U.in_octets U.bytes_of D.is_width D.width D.moment_by D.field D.held D.in_octets D.bytes_of C.width C.day_at C.clock_at C.field C.date_text C.clock_text C.bytes_of A.width A.layout_of A.day_at A.clock_at A.fields_of A.text A.day_text A.clock_text A.code_text A.bytes_of lettersOf shaped shape_of code_shapes time_of moment_of is_moment L.utc_of_second L.reading_of L.lifted_by L.second_of_utc L.second_of reading_at covers_second day_holding second_at covers day_length start offset builtin kind year_start years_to row month_length is_date is_ordinal day_index ordinal_on date_in index_of_date index_of_ordinal index_of_day ordinal_at
outside = (
  record { ready = record { source = refl; settings = (_, refl); room = lit≤ tt }; refuses = refl },
  record { ready = record { source = refl; settings = (_, refl); room = lit≤ tt }; refuses = refl },
  record { ready = record { source = refl; settings = (_, refl); room = lit≤ tt }; refuses = refl },
  record { ready = record { source = refl; settings = (_, refl); room = lit≤ tt }; refuses = refl },
  record { ready = record { source = refl; settings = refl; room = lit≤ tt }; refuses = refl },
)

-- ---- listings that end with a result: room that runs out, and room that does not
abbrev lent : ℕ → List ℤ
lent n = replicate n (pos 9)

counts : given (listed (lent 2)) (list_by builtin (counter (16 ∷ 0 ∷ []) Front (pos 0)) (time (pos 0) 0) (time (pos 1024) 0)) ≡ done (record { ticks = 0; count = 2; more = true })
unfolding good within allows laid laid_as cuc_laid cds_laid ccs_laid headed_of scan_in scan_of write_of roomed count_of U.is_width U.width U.field U.holds U.in_octets U.bytes_of K.tag_with K.tag_in K.periodic_of K.list_periodic K.list_cuc start_at moments_in first_second counted named_in filter cons_if range up listed
counts = refl

-- "::60" over the five seconds around 2016-12-31T23:59:60
sixties : given (listed (lent 2)) (list_by builtin (P.letters (bytes "::60")) (time (pos 1861920034) 0) (time (pos 1861920039) 0)) ≡ done (record { ticks = 0; count = 1; more = false })
unfolding good within time_of moment_of is_moment L.utc_of_second L.reading_of L.lifted_by L.second_of_utc L.second_of reading_at covers_second day_holding second_at covers day_length start offset builtin kind year_start years_to row month_length is_date is_ordinal day_index ordinal_on date_in index_of_date index_of_ordinal index_of_day ordinal_at calendar_as clock_as unzoned time_in alone joined formed good_day good_clock want_of names day_fits clock_fits AsciiTag.covered AsciiTag.list_wanted AsciiTag.list_ascii shape_of days months hours minutes start_at moments_in first_second named_in filter cons_if range up listed
sixties = refl

-- ---- each call ends with a result, and each but that of a run of pairs is refused: among them all numbers
-- so many seconds and ticks onboard and on the ground
abbrev pair : ℤ → ℕ → ℤ → ℕ → Pair
pair s k u l = record { onboard = time s k; ground = time u l }

-- four octets of a CDS T-field
abbrev cut : Receiver
cut = holding (octet 0x40) (pos 0) (0x54 ∷ 0x2d ∷ 0x05 ∷ 0x26 ∷ [])

abbrev answers : List Call → List ℕ
answers = map (λ (c : Call). status (outcome_of builtin c))

abbrev layout : ℕ → Layout
layout d = record { ordinal = false; digits = d; zone = true }

results : answers
    (P.difference leap early ∷ P.shift early (time (negsuc 0) 5) ∷ P.day_of_date 2024 2 29 ∷ P.date_of_day (pos 0) ∷ P.day_of_ordinal 2024 366 ∷ P.ordinal_of_day (negsuc 714778) ∷ P.utc_of_second (pos 1861920036) ∷ P.second_of_utc (pos 21549) 86400
    ∷ P.read_binary (0x1c ∷ 0x6e ∷ 0xfa ∷ 0xa5 ∷ 0x24 ∷ []) true 0 (pos 0) ∷ P.write_binary leap true 0x1c (pos 0) room ∷ P.read_ascii (bytes "2016-12-31T23:59:60") ∷ P.write_ascii leap (layout 12) room ∷ P.write_wall leap room
    ∷ P.list_cuc (16 ∷ 0 ∷ []) true 0 (pos 0) (time (pos 0) 0) (time (pos 9) 0) ∷ P.list_ascii (bytes "::60") leap leap
    ∷ P.rate (pair (pos 0) 0 (pos 0) 0) (pair (negsuc 0) 0 (pos 2) 0) ∷ P.rates []
    ∷ P.receiver_make 0x1c (pos (2 ^ 63 - 1)) ∷ P.receive cut (0x5f ∷ 0xe8 ∷ []) 1 ∷ [])
    ≡ replicate 19 0
unfolding quotient_of feed_of layout_of is_state D.is_width D.width good within allows laid laid_as cuc_laid cds_laid ccs_laid headed_of scan_in scan_of write_of roomed count_of U.is_width U.width U.field U.holds U.in_octets U.bytes_of A.width A.layout_of A.day_at A.clock_at A.fields_of A.text A.day_text A.clock_text A.code_text A.bytes_of lettersOf shaped shape_of code_shapes time_of moment_of is_moment L.utc_of_second L.reading_of L.lifted_by L.second_of_utc L.second_of reading_at covers_second day_holding second_at covers day_length start offset builtin kind year_start years_to row month_length is_date is_ordinal day_index ordinal_on date_in index_of_date index_of_ordinal index_of_day ordinal_at K.tag_with K.tag_in K.periodic_of K.list_periodic K.list_cuc start_at moments_in first_second counted named_in filter cons_if range up calendar_as clock_as unzoned time_in alone joined formed good_day good_clock want_of names day_fits clock_fits AsciiTag.covered AsciiTag.list_wanted AsciiTag.list_ascii days months hours minutes
results = refl

refusals : answers
    (P.difference leap (time (pos 0) 4096000000000000) ∷ P.shift early (time (pos 2199023255552) 0) ∷ P.day_of_date 2023 2 29 ∷ P.date_of_day (pos 2937280) ∷ P.day_of_ordinal 2023 366 ∷ P.ordinal_of_day (pos 2937280) ∷ P.utc_of_second (pos 441763209) ∷ P.second_of_utc (pos 21550) 86400
    ∷ P.read_binary (0x1c ∷ 0x6e ∷ []) true 0 (pos 0) ∷ P.write_binary leap true 0x60 (pos 0) room ∷ P.read_ascii (bytes "2016-12-31T12:00:60") ∷ P.write_ascii leap (layout 13) room ∷ P.write_wall leap (7 ∷ [])
    ∷ P.list_cuc (16 ∷ 0 ∷ []) true 0 (pos 0) (time (pos 9) 0) (time (pos 0) 0) ∷ P.list_ascii (bytes "::60") early leap
    ∷ P.rate (pair (pos 0) 0 (pos 0) 0) (pair (pos 0) 1 (pos 0) 4096000000000000) ∷ P.rate (pair (pos 0) 0 (pos 0) 0) (pair (pos 4294967296) 1 (pos 0) 0)
    ∷ P.rate (pair (pos 0) 0 (pos 0) 0) (pair (pos 4294967296) 0 (pos 0) 0) ∷ P.rate (pair (pos 0) 0 (pos 0) 0) (pair (pos 1) 0 (pos 0) 0)
    ∷ P.receiver_make 0x2c (pos (2 ^ 40)) ∷ P.receive cut (0x5f ∷ 0xe8 ∷ []) 0 ∷ [])
    ≡ 7 ∷ 7 ∷ 4 ∷ 7 ∷ 4 ∷ 7 ∷ 5 ∷ 6 ∷ 1 ∷ 2 ∷ 4 ∷ 3 ∷ 8 ∷ 9 ∷ 5 ∷ 7 ∷ 11 ∷ 7 ∷ 10 ∷ 7 ∷ 8 ∷ []
unfolding quotient_of feed_of layout_of is_state D.is_width D.width good within allows laid laid_as cuc_laid cds_laid ccs_laid headed_of scan_in scan_of write_of roomed count_of U.is_width U.width U.field U.holds U.in_octets U.bytes_of A.width A.layout_of A.day_at A.clock_at A.fields_of A.text A.day_text A.clock_text A.code_text A.bytes_of lettersOf shaped shape_of code_shapes time_of moment_of is_moment L.utc_of_second L.reading_of L.lifted_by L.second_of_utc L.second_of reading_at covers_second day_holding second_at covers day_length start offset builtin kind year_start years_to row month_length is_date is_ordinal day_index ordinal_on date_in index_of_date index_of_ordinal index_of_day ordinal_at K.tag_with K.tag_in K.periodic_of K.list_periodic K.list_cuc start_at moments_in first_second counted named_in filter cons_if range up calendar_as clock_as unzoned time_in alone joined formed good_day good_clock want_of names day_fits clock_fits AsciiTag.covered AsciiTag.list_wanted AsciiTag.list_ascii days months hours minutes
refusals = refl
