-- For each call of the C interface and each refusal number: the answer is that refusal exactly when its condition, in the words of documents 01 and 02, is broken and no earlier one is, and a result exactly when none is. By any table, or any that reckons.
use mathlib.Core.Path.{◌≡◌, refl}
use mathlib.Core.Bool.{Bool, true}
use mathlib.Core.List.{List, [], ◌∷◌, map}
use Prim.Native.Nat.{ℕ}
use lib.IntN.{ℤ}
use Rattle.base.specs.Outcome.{done}
use Rattle.scale.specs.Time.{Time, difference_of, shift_of}
use Rattle.drift.specs.Rate.{Pair, quotient_of}
use Rattle.drift.specs.Run.{report_of}
use Rattle.calendar.specs.Gregorian.{day_of_date, day_of_ordinal, date_of_day, ordinal_of_day}
use Rattle.leap.specs.Table.{Table}
use Rattle.leap.specs.Utc.{utc_of_second, second_of_utc}
use Rattle.utc.specs.Reckoning.{reckons}
use Rattle.ascii.specs.declared.Layout.{Layout}
use Rattle.codes.specs.Reading.{scan_of}
use Rattle.codes.specs.Writing.{write_of, from}
use Rattle.codes.specs.Text.{text_of}
use Rattle.codes.specs.Setting.{ascii_of, wall_of}
use Rattle.pfield.specs.PField.{octet}
use Rattle.pfield.specs.declared.PField.{PField}
use Rattle.pfield.specs.declared.Preamble.{Preamble}
use Rattle.pfield.specs.declared.Layout as Laid
use Rattle.listing.specs.CucTag.{list_cuc}
use Rattle.listing.specs.AsciiTag.{list_ascii}
use Rattle.receiver.specs.Receiver.{made_of, feed_of}
use Rattle.receiver.specs.declared.Receiver.{Receiver}
use Rattle.promises.specs.Promises as P
use Rattle.promises.specs.Rungs.{Rung, numbered, Exactly}
use Rattle.promises.specs.RungsScale.{difference_rungs, shift_rungs}
use Rattle.promises.specs.RungsDrift.{rate_rungs, rates_rungs}
use Rattle.promises.specs.RungsCalendar.{day_of_date_rungs, day_of_ordinal_rungs, date_of_day_rungs, ordinal_of_day_rungs, utc_of_second_rungs, second_of_utc_rungs}
use Rattle.promises.specs.RungsAscii.{read_ascii_rungs, write_ascii_rungs, write_wall_rungs}
use Rattle.promises.specs.RungsBinary.{read_binary_rungs, write_binary_rungs}
use Rattle.promises.specs.RungsTags.{list_cuc_rungs, list_ascii_rungs}
use Rattle.promises.specs.RungsReceiver.{receiver_make_rungs, receive_rungs, answer_rungs}
use Rattle.promises.specs.RungsCalls.{rungs_of}
use Rattle.promises.proofs.Rungs.{by_rungs}
use Rattle.promises.proofs.RungsScale.{difference_rungs_lem, shift_rungs_lem}
use Rattle.promises.proofs.RungsDrift.{rate_rungs_lem, rates_rungs_lem}
use Rattle.promises.proofs.RungsCalendar.{day_of_date_rungs_lem, day_of_ordinal_rungs_lem, date_of_day_rungs_lem, ordinal_of_day_rungs_lem, utc_of_second_rungs_lem, second_of_utc_rungs_lem}
use Rattle.promises.proofs.RungsAscii.{read_ascii_rungs_lem, write_ascii_rungs_lem, write_wall_rungs_lem}
use Rattle.promises.proofs.RungsBinary.{read_binary_rungs_lem, write_binary_rungs_lem}
use Rattle.promises.proofs.RungsTags.{list_cuc_rungs_lem, list_ascii_rungs_lem}
use Rattle.promises.proofs.RungsReceiver.{receiver_make_rungs_lem, receive_rungs_lem}

-- ---- the order of the numbers is document 01's: "when reading: missing P 1, then 2, 3, epoch 7 .., short T 1, 4, 5, 6. Writing: record 7, then 2, 3, epoch 7, cover 5 .., target 7, room 8 .. Listing: the tag as in reading up to 4, then records 7, 9, cover 5"
abbrev numbers : List Rung → List ℕ
numbers rs = map (λ r. r.number) rs

pub reading_order : (t : Table) (s : List ℕ) (p : Preamble) (e : ℤ) → (numbers (read_binary_rungs t s p e) ≡ 1 ∷ 2 ∷ 3 ∷ 7 ∷ 1 ∷ 4 ∷ 5 ∷ 6 ∷ []) × (numbers (read_ascii_rungs t s) ≡ 1 ∷ 4 ∷ 5 ∷ 6 ∷ [])
reading_order t s p e = (refl, refl)

pub writing_order : (t : Table) (r : Time) (o : ℕ) (e : ℤ) (front : Bool) (l : Layout) (out : List ℕ) → (numbers (write_binary_rungs t r o e front out) ≡ 7 ∷ 2 ∷ 3 ∷ 7 ∷ 5 ∷ 7 ∷ 8 ∷ []) × (numbers (write_ascii_rungs t l r out) ≡ 7 ∷ 3 ∷ 5 ∷ 8 ∷ []) × (numbers (write_wall_rungs t r out) ≡ 7 ∷ 5 ∷ 8 ∷ [])
writing_order t r o e front l out = (refl, refl, refl)

pub listing_order : (t : Table) (s : List ℕ) (p : Preamble) (e : ℤ) (from to : Time) → (numbers (list_cuc_rungs s p e from to) ≡ 1 ∷ 2 ∷ 3 ∷ 7 ∷ 1 ∷ 4 ∷ 7 ∷ 7 ∷ 9 ∷ []) × (numbers (list_ascii_rungs t s from to) ≡ 1 ∷ 4 ∷ 7 ∷ 7 ∷ 9 ∷ 5 ∷ [])
listing_order t s p e from to = (refl, refl)

-- document 02, request 1: "Refused in this order: an invalid record 7, one off the 2^-24 s grid new 11, an elapsed time of 2^32 s or more in size 7, ground elapsed zero or negative new 10"
pub rate_order : (p q : Pair) → numbers (rate_rungs p q) ≡ 7 ∷ 11 ∷ 7 ∷ 10 ∷ []
rate_order p q = refl

-- document 02, request 2: "Its making refuses a bad P-field or epoch as 01 does", so does a call with its state, which is then judged, 7; "Too little room .. is 8". And each answer is a record, 4, 5 or 6: never 1
pub receiving_order : (t : Table) (r : Receiver) (piece : List ℕ) (room : ℕ) (o : ℕ) (e : ℤ) (l : Laid.Layout) → (numbers (receiver_make_rungs o e) ≡ 2 ∷ 3 ∷ 7 ∷ []) × (numbers (receive_rungs r piece room) ≡ 2 ∷ 3 ∷ 7 ∷ 7 ∷ 7 ∷ 8 ∷ []) × (numbers (answer_rungs t piece l) ≡ 4 ∷ 5 ∷ 6 ∷ [])
receiving_order t r piece room o e l = (refl, refl, refl)

-- ---- records and spans
pub difference : (a b : Time) → Exactly (difference_of a b) (difference_rungs a b)
difference a b = by_rungs (difference_of a b) (difference_rungs a b) (difference_rungs_lem a b)

pub shift : (r s : Time) → Exactly (shift_of r s) (shift_rungs r s)
shift r s = by_rungs (shift_of r s) (shift_rungs r s) (shift_rungs_lem r s)

-- ---- the calendar
pub day_of_date_lem : (y m d : ℕ) → Exactly (day_of_date y m d) (day_of_date_rungs y m d)
day_of_date_lem y m d = by_rungs (day_of_date y m d) (day_of_date_rungs y m d) (day_of_date_rungs_lem y m d)

pub day_of_ordinal_lem : (y d : ℕ) → Exactly (day_of_ordinal y d) (day_of_ordinal_rungs y d)
day_of_ordinal_lem y d = by_rungs (day_of_ordinal y d) (day_of_ordinal_rungs y d) (day_of_ordinal_rungs_lem y d)

pub date_of_day_lem : (z : ℤ) → Exactly (date_of_day z) (date_of_day_rungs z)
date_of_day_lem z = by_rungs (date_of_day z) (date_of_day_rungs z) (date_of_day_rungs_lem z)

pub ordinal_of_day_lem : (z : ℤ) → Exactly (ordinal_of_day z) (ordinal_of_day_rungs z)
ordinal_of_day_lem z = by_rungs (ordinal_of_day z) (ordinal_of_day_rungs z) (ordinal_of_day_rungs_lem z)

-- ---- TAI and UTC
pub utc_of_second_lem : (t : Table) (z : ℤ) → Exactly (utc_of_second t z) (utc_of_second_rungs t z)
utc_of_second_lem t z = by_rungs (utc_of_second t z) (utc_of_second_rungs t z) (utc_of_second_rungs_lem t z)

pub second_of_utc_lem : (t : Table) (d : ℤ) (x : ℕ) → Exactly (second_of_utc t d x) (second_of_utc_rungs t d x)
second_of_utc_lem t d x = by_rungs (second_of_utc t d x) (second_of_utc_rungs t d x) (second_of_utc_rungs_lem t d x)

-- ---- codes
pub read_binary_lem : (t : Table) (s : List ℕ) (p : Preamble) (e : ℤ) → Exactly (scan_of t s p e) (read_binary_rungs t s p e)
read_binary_lem t s p e = by_rungs (scan_of t s p e) (read_binary_rungs t s p e) (read_binary_rungs_lem t s p e)

pub write_binary_lem : (t : Table) → reckons t ≡ true → (r : Time) (p : PField) (e : ℤ) (front : Bool) (out : List ℕ) → Exactly (write_of t r p e front out) (write_binary_rungs t r p.octet e front out)
write_binary_lem t g r p e front out = by_rungs (write_of t r p e front out) (write_binary_rungs t r p.octet e front out) (write_binary_rungs_lem t g r p e front out)

pub read_ascii_lem : (t : Table) (s : List ℕ) → Exactly (text_of t s) (read_ascii_rungs t s)
read_ascii_lem t s = by_rungs (text_of t s) (read_ascii_rungs t s) (read_ascii_rungs_lem t s)

pub write_ascii_lem : (t : Table) → reckons t ≡ true → (l : Layout) (r : Time) (out : List ℕ) → Exactly (ascii_of t l r out) (write_ascii_rungs t l r out)
write_ascii_lem t g l r out = by_rungs (ascii_of t l r out) (write_ascii_rungs t l r out) (write_ascii_rungs_lem t g l r out)

pub write_wall_lem : (t : Table) → reckons t ≡ true → (r : Time) (out : List ℕ) → Exactly (wall_of t r out) (write_wall_rungs t r out)
write_wall_lem t g r out = by_rungs (wall_of t r out) (write_wall_rungs t r out) (write_wall_rungs_lem t g r out)

-- ---- listings
pub list_cuc_lem : (s : List ℕ) (p : Preamble) (e : ℤ) (from to : Time) → Exactly (list_cuc s p e from to) (list_cuc_rungs s p e from to)
list_cuc_lem s p e from to = by_rungs (list_cuc s p e from to) (list_cuc_rungs s p e from to) (list_cuc_rungs_lem s p e from to)

pub list_ascii_lem : (t : Table) (s : List ℕ) (from to : Time) → Exactly (list_ascii t s from to) (list_ascii_rungs t s from to)
list_ascii_lem t s from to = by_rungs (list_ascii t s from to) (list_ascii_rungs t s from to) (list_ascii_rungs_lem t s from to)

-- ---- drift
pub rate : (p q : Pair) → Exactly (quotient_of p q) (rate_rungs p q)
rate p q = by_rungs (quotient_of p q) (rate_rungs p q) (rate_rungs_lem p q)

pub rates : (run : List Pair) → Exactly (done (report_of run)) (rates_rungs run)
rates run = by_rungs (done (report_of run)) (rates_rungs run) (rates_rungs_lem run)

-- ---- a receiver
pub receiver_make_lem : (p : PField) (e : ℤ) → Exactly (made_of p e) (receiver_make_rungs p.octet e)
receiver_make_lem p e = by_rungs (made_of p e) (receiver_make_rungs p.octet e) (receiver_make_rungs_lem p e)

pub receive : (t : Table) (r : Receiver) (piece : List ℕ) (room : ℕ) → Exactly (feed_of t r piece room) (receive_rungs r piece room)
receive t r piece room = by_rungs (feed_of t r piece room) (receive_rungs r piece room) (receive_rungs_lem t r piece room)

-- ---- all calls at once
module _ (t : Table) (g : reckons t ≡ true) where
  -- each is refused exactly by its rungs ..
  pub calls_exactly : (c : P.Call) → Exactly (P.outcome_of t c) (rungs_of t c)
  calls_exactly (P.difference a b) = difference a b
  calls_exactly (P.shift r s) = shift r s
  calls_exactly (P.day_of_date y m d) = day_of_date_lem y m d
  calls_exactly (P.date_of_day z) = date_of_day_lem z
  calls_exactly (P.day_of_ordinal y d) = day_of_ordinal_lem y d
  calls_exactly (P.ordinal_of_day z) = ordinal_of_day_lem z
  calls_exactly (P.utc_of_second z) = utc_of_second_lem t z
  calls_exactly (P.second_of_utc d x) = second_of_utc_lem t d x
  calls_exactly (P.read_binary s front p e) = read_binary_lem t s (from front (octet p)) e
  calls_exactly (P.write_binary r front p e out) = write_binary_lem t g r (octet p) e front out
  calls_exactly (P.read_ascii s) = read_ascii_lem t s
  calls_exactly (P.write_ascii r l out) = write_ascii_lem t g l r out
  calls_exactly (P.write_wall r out) = write_wall_lem t g r out
  calls_exactly (P.list_cuc s front p e since before) = list_cuc_lem s (from front (octet p)) e since before
  calls_exactly (P.list_ascii s since before) = list_ascii_lem t s since before
  calls_exactly (P.rate p q) = rate p q
  calls_exactly (P.rates run) = rates run
  calls_exactly (P.receiver_make p e) = receiver_make_lem (octet p) e
  calls_exactly (P.receive r piece room) = receive t r piece room

-- .. whose numbers are among those that there are
pub calls_numbered : (t : Table) (c : P.Call) → numbered (rungs_of t c) ≡ true
calls_numbered t (P.difference a b) = refl
calls_numbered t (P.shift r s) = refl
calls_numbered t (P.day_of_date y m d) = refl
calls_numbered t (P.date_of_day z) = refl
calls_numbered t (P.day_of_ordinal y d) = refl
calls_numbered t (P.ordinal_of_day z) = refl
calls_numbered t (P.utc_of_second z) = refl
calls_numbered t (P.second_of_utc d x) = refl
calls_numbered t (P.read_binary s front p e) = refl
calls_numbered t (P.write_binary r front p e out) = refl
calls_numbered t (P.read_ascii s) = refl
calls_numbered t (P.write_ascii r l out) = refl
calls_numbered t (P.write_wall r out) = refl
calls_numbered t (P.list_cuc s front p e since before) = refl
calls_numbered t (P.list_ascii s since before) = refl
calls_numbered t (P.rate p q) = refl
calls_numbered t (P.rates run) = refl
calls_numbered t (P.receiver_make p e) = refl
calls_numbered t (P.receive r piece room) = refl
