-- What the C interface's numbers say, and what its cells are given.
use Rattle.std.specs.Prelude.{ℕ, Bool, List, [], ◌∷◌, ◌++◌, length, get_or, drop, ℤ, Option, Some, None}
use Rattle.base.specs.Parts.{bits_of, signed_of}
use Rattle.scale.specs.Time.{Time}
use Rattle.drift.specs.Rate.{Pair, pair_of}
use Rattle.drift.specs.declared.Extreme.{Extreme}
use Rattle.drift.specs.declared.Report.{Report}
use Rattle.calendar.specs.declared.Date.{Date}
use Rattle.calendar.specs.declared.Ordinal.{Ordinal}
use Rattle.leap.specs.declared.Utc.{Utc}
use Rattle.codes.specs.Reading.{Scanned}
use Rattle.ascii.specs.declared.Layout.{Layout}
use Rattle.octets.specs.Places.{be, octets}
use Rattle.pfield.specs.PField.{octet}
use Rattle.receiver.specs.declared.Receiver.{Receiver}
use Rattle.window.specs.declared.Listed.{Listed}

abbrev pub itself : ℤ → ℤ
itself z = z

abbrev pub time : ℤ → ℕ → Time
time s n = record { sec = s; ticks = n }

abbrev pub sec_of : Time → ℤ
sec_of t = t.sec

abbrev pub ticks_of : Time → ℕ
ticks_of t = t.ticks

abbrev pub year_of : Date → ℕ
year_of t = t.year

abbrev pub month_of : Date → ℕ
month_of t = t.month

abbrev pub day_of : Date → ℕ
day_of t = t.day

abbrev pub ordinal_year : Ordinal → ℕ
ordinal_year o = o.year

abbrev pub ordinal_day : Ordinal → ℕ
ordinal_day o = o.day

abbrev pub utc_day : Utc → ℤ
utc_day u = u.day

abbrev pub utc_second : Utc → ℕ
utc_second u = u.second

abbrev pub utc_offset : Utc → ℤ
utc_offset u = u.offset

abbrev pub scanned_sec : Scanned → ℤ
scanned_sec x = x.moment.sec

abbrev pub scanned_ticks : Scanned → ℕ
scanned_ticks x = x.moment.ticks

abbrev pub scanned_used : Scanned → ℕ
scanned_used x = x.used

abbrev pub length_of : List ℕ → ℕ
length_of l = length l

abbrev pub ascii_layout : Bool → ℕ → Bool → Layout
ascii_layout b d z = record { ordinal = b; digits = d; zone = z }

abbrev pub listed_ticks : Listed → ℕ
listed_ticks x = x.ticks

abbrev pub listed_count : Listed → ℕ
listed_count x = x.count

abbrev pub listed_more : Listed → Bool
listed_more x = x.more

abbrev pub pair : ℤ → ℕ → ℤ → ℕ → Pair
pair s k t l = pair_of (time s k) (time t l)

-- the numerator's bits, the denominator and the place: without a rate all are 0
abbrev pub numbers_in : Option Extreme → List ℕ
numbers_in None = 0 ∷ 0 ∷ 0 ∷ []
numbers_in (Some x) = bits_of x.rate.num ∷ x.rate.den ∷ x.place ∷ []

-- the numbers of a report in their order
abbrev pub numbers_of : Report → List ℕ
numbers_of x = x.rates ∷ x.range ∷ x.not_elapsed ∷ x.off_grid ∷ numbers_in x.smallest ++ numbers_in x.largest

-- a receiver as its octets: the P octet; the epoch's 64 bits, big-endian; how many octets are pending; and these, with zeros behind them
abbrev pub state_of : Receiver → List ℕ
state_of r = (r.p.octet ∷ octets 8 (bits_of r.epoch)) ++ (r.count ∷ r.pending)

-- and the receiver of which 22 octets are these
abbrev pub epoch_in : List ℕ → ℤ
epoch_in s = signed_of (be (drop 1 s) 8)

abbrev pub receiver_in : List ℕ → Receiver
receiver_in s = record { p = octet (get_or s 0 0); epoch = epoch_in s; pending = drop 10 s; count = get_or s 9 0 }
