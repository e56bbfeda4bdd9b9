-- What the promises speak of, in the user's words, over the definitions that the contracts of the C interface cite. They cite them with the built-in table; here it is any table t.
use Rattle.std.specs.Prelude.{◌≡◌, Bool, true, false, List, [], ◌++◌, ◌⊎◌, ◌↔◌, ℕ, ◌+◌, ◌*◌, ◌^◌, ◌≤◌, min, ℤ, pos, ◌+ℤ◌, length, get_or, take, drop}
use Rattle.base.specs.Outcome.{Outcome, done, refused, given}
use Rattle.scale.specs.Time.{Time, per_second, worth, is_record, difference_of, shift_of}
use Rattle.scale.specs.Latest.{Latest}
use Rattle.drift.specs.Fraction.{Fraction}
use Rattle.drift.specs.Rate.{Pair, quotient_of}
use Rattle.drift.specs.Run.{Report, report_of}
use Rattle.calendar.specs.Gregorian as G
use Rattle.calendar.specs.declared.Date.{Date}
use Rattle.calendar.specs.declared.Ordinal.{Ordinal}
use Rattle.leap.specs.Table.{Table}
use Rattle.leap.specs.Utc as L
use Rattle.leap.specs.declared.Utc.{Utc}
use Rattle.cuc.specs.Cuc as U
use Rattle.cds.specs.Cds as D
use Rattle.ascii.specs.Ascii.{is_layout, width, layout_of, bit}
use Rattle.ascii.specs.declared.Layout.{Layout}
use Rattle.pfield.specs.PField.{laid, octet}
use Rattle.pfield.specs.declared.Codes.TheVariants.{All}
use Rattle.codes.specs.Reading.{Scanned, scanned, scan_of, used_of, width_of}
use Rattle.codes.specs.Range.{HoldsIn}
use Rattle.codes.specs.Writing.{from, write_of}
use Rattle.codes.specs.Text.{text_of}
use Rattle.codes.specs.Setting.{ascii_of, wall_of}
use Rattle.pfield.specs.declared.Preamble.{Preamble}
use Rattle.pfield.specs.declared.Layout as P
use Rattle.pfield.specs.declared.Layout.TheVariants.{Cuc, Cds, Ccs}
use Rattle.codes.specs.declared.setting.Setting.{Setting}
use Rattle.codes.specs.declared.setting.Setting.TheVariants.{Binary, Ascii}
use Rattle.receiver.specs.Receiver.{made_of, Fate, feed_of}
use Rattle.receiver.specs.declared.Receiver.{Receiver}
use Rattle.window.specs.Among.{Among, Ascending}
use Rattle.window.specs.Window.{Named}
use Rattle.tag.specs.Shortening as A
use Rattle.listing.specs.Records.{Inside, Sooner}
use Rattle.listing.specs.CucTag as C
use Rattle.listing.specs.AsciiTag as T
use Rattle.promises.specs.Octet.{octet_in, coarse}
use Rattle.window.specs.declared.Listed.{Listed}

-- ---- "Every entry point takes any bytes, any record, any settings and any room"
-- the calls of the C interface: all that a caller hands over
pub data Call : Type 0 where
  difference : Time → Time → Call
  shift : Time → Time → Call
  day_of_date : ℕ → ℕ → ℕ → Call
  date_of_day : ℤ → Call
  day_of_ordinal : ℕ → ℕ → Call
  ordinal_of_day : ℤ → Call
  utc_of_second : ℤ → Call
  second_of_utc : ℤ → ℕ → Call
  read_binary : List ℕ → Bool → ℕ → ℤ → Call
  write_binary : Time → Bool → ℕ → ℤ → List ℕ → Call
  read_ascii : List ℕ → Call
  write_ascii : Time → Layout → List ℕ → Call
  write_wall : Time → List ℕ → Call
  list_cuc : List ℕ → Bool → ℕ → ℤ → Time → Time → Call
  list_ascii : List ℕ → Time → Time → Call
  rate : Pair → Pair → Call
  rates : List Pair → Call
  receiver_make : ℕ → ℤ → Call
  receive : Receiver → List ℕ → ℕ → Call

-- what each gives, and its outcome: that of its contract
abbrev pub Result : Call → Type 0
Result (difference a b) = Time
Result (shift r s) = Time
Result (day_of_date y m d) = ℤ
Result (date_of_day z) = Date
Result (day_of_ordinal y d) = ℤ
Result (ordinal_of_day z) = Ordinal
Result (utc_of_second z) = Utc
Result (second_of_utc d x) = ℤ
Result (read_binary s front p e) = Scanned
Result (write_binary r front p e out) = List ℕ
Result (read_ascii s) = Time
Result (write_ascii r l out) = List ℕ
Result (write_wall r out) = List ℕ
Result (list_cuc s front p e since before) = Named ℤ
Result (list_ascii s since before) = Named ℤ
-- the exact quotient, which is told in lowest terms
Result (rate p q) = Fraction
Result (rates run) = Report
Result (receiver_make p e) = Receiver
Result (receive r piece room) = Fate

abbrev pub outcome_of : Table → (c : Call) → Outcome (Result c)
outcome_of t (difference a b) = difference_of a b
outcome_of t (shift r s) = shift_of r s
outcome_of t (day_of_date y m d) = G.day_of_date y m d
outcome_of t (date_of_day z) = G.date_of_day z
outcome_of t (day_of_ordinal y d) = G.day_of_ordinal y d
outcome_of t (ordinal_of_day z) = G.ordinal_of_day z
outcome_of t (utc_of_second z) = L.utc_of_second t z
outcome_of t (second_of_utc d x) = L.second_of_utc t d x
outcome_of t (read_binary s front p e) = scan_of t s (from front (octet p)) e
outcome_of t (write_binary r front p e out) = write_of t r (octet p) e front out
outcome_of t (read_ascii s) = text_of t s
outcome_of t (write_ascii r l out) = ascii_of t l r out
outcome_of t (write_wall r out) = wall_of t r out
outcome_of t (list_cuc s front p e since before) = C.list_cuc s (from front (octet p)) e since before
outcome_of t (list_ascii s since before) = T.list_ascii t s since before
outcome_of t (rate p q) = quotient_of p q
outcome_of t (rates run) = done (report_of run)
outcome_of t (receiver_make p e) = made_of (octet p) e
outcome_of t (receive r piece room) = feed_of t r piece room

-- it ends with a result ..
abbrev pub Done : {A : Type 0} → Outcome A → Type 0
Done {A} o = (a : A) × (o ≡ done a)

-- .. "or one of nine numbered refusals": 1 to 9, joined by 10 and 11 (document 02)
abbrev pub last_number : ℕ
last_number = 11

abbrev pub Refused : {A : Type 0} → Outcome A → Type 0
Refused o = (n : ℕ) × (o ≡ refused n) × (1 ≤ n) × (n ≤ last_number)

-- ---- reading and writing: "CUC, CDS, CCS and ASCII A and B" at once, by the setting
-- what bytes read to under a setting: "A P octet is read from the front or supplied by the caller apart"; "An ASCII code is the whole slice"
abbrev pub read_under : Table → Setting → List ℕ → Outcome Time
read_under t (Binary p e front) s = given (λ (x : Scanned). x.moment) (scan_of t s (from front p) e)
read_under t (Ascii l) s = text_of t s

-- the bytes that the code takes: "Binary reading returns the part of the caller's bytes that follows the code"
abbrev pub code_in : Table → Setting → List ℕ → List ℕ
code_in t (Binary p e front) s = take (used_of (scan_of t s (from front p) e)) s
code_in t (Ascii l) s = s

-- .. and what may follow it
abbrev pub MayFollow : Setting → List ℕ → Type 0
MayFollow (Binary p e front) rest = Unit {0}
MayFollow (Ascii l) rest = rest ≡ []

-- "with the same settings": the P octet in front is the setting's own, where it is written; the text has the setting's form, digits and Z
abbrev pub OfSetting : Setting → List ℕ → Type 0
OfSetting (Binary p e true) s = get_or s 0 0 ≡ p.octet
OfSetting (Binary p e false) s = Unit {0}
OfSetting (Ascii l) s = layout_of s ≡ l

-- a "time the target can hold": one that some bytes of the setting read to
abbrev pub Holdable : Table → Setting → Time → Type 0
Holdable t setting x = (s : List ℕ) × (OfSetting setting s) × (read_under t setting s ≡ done x)

-- what a written code yields: "the latest time the target can hold that is not after the source", read from the code itself, whatever follows it
pub record Yields (t : Table) (setting : Setting) (r : Time) (code : List ℕ) (m : Time) : Type 0 where
  pub latest : Latest (Holdable t setting) r m
  pub own : OfSetting setting code
  pub reads : (rest : List ℕ) → MayFollow setting rest → read_under t setting (code ++ rest) ≡ done m
  pub whole : (rest : List ℕ) → MayFollow setting rest → code_in t setting (code ++ rest) ≡ code

-- ---- "With a valid source, settings and epochs and enough room"
-- an identification, a layout and an epoch that there are; at most 12 digits
abbrev pub Valid : Setting → Type 0
Valid (Binary p e front) = Done (laid All p e)
Valid (Ascii l) = is_layout l ≡ true

-- how many bytes a code of the setting has
abbrev pub size_by : Bool → Outcome P.Layout → ℕ
size_by front (done l) = bit front + width_of l
size_by front (refused n) = 0

abbrev pub size_of : Setting → ℕ
size_of (Binary p e front) = size_by front (laid All p e)
size_of (Ascii l) = width l

pub record Ready (r : Time) (setting : Setting) (out : List ℕ) : Type 0 where
  pub source : is_record r ≡ true
  pub settings : Valid setting
  pub room : size_of setting ≤ length out

-- ---- "exactly outside the target's range or, for UTC codes, the table's days"
-- CDS, CCS and ASCII
abbrev pub is_utc_in : Outcome P.Layout → Bool
is_utc_in (done (Cuc l)) = false
is_utc_in (done (Cds l)) = true
is_utc_in (done (Ccs l)) = true
is_utc_in (refused n) = false

abbrev pub is_utc : Setting → Bool
is_utc (Binary p e front) = is_utc_in (laid All p e)
is_utc (Ascii l) = true

-- the source is on one of the table's days
abbrev pub Covered : Table → Time → Type 0
Covered t r = Done (L.utc_of_second t r.sec)

-- the layout's own range, where the setting is a P-field's; every covered moment, where it is an ASCII layout
abbrev pub Holds : Table → Setting → Time → Type 0
Holds t (Binary p e front) r = (l : P.Layout) × ((laid All p e ≡ done l) × HoldsIn t l r)
Holds t (Ascii l) r = Covered t r

-- the same by the counts themselves
abbrev pub FitsIn : Table → P.Layout → Time → Type 0
FitsIn t (Cuc l) r = U.holds l r ≡ true
FitsIn t (Cds l) r = (u : Utc) × ((L.utc_of_second t r.sec ≡ done u) × (D.held l u.day ≡ true))
FitsIn t (Ccs l) r = Covered t r

-- which refusal: 5 outside the table's days, for UTC codes; else 7 outside the target's range
abbrev pub Outside : Table → Setting → Time → ℕ → Type 0
Outside t setting r n =
    ((n ≡ 5) × (is_utc setting ≡ true) × (Covered t r → ⊥))
    ⊎ ((n ≡ 7) × (is_utc setting ≡ true → Covered t r) × (Holds t setting r → ⊥))

-- ---- "on one exact scale"
abbrev pub second : Time
second = record { sec = pos 1; ticks = 0 }

-- a time shows second x of a UTC day; 86,400 is 23:59:60
pub record Shows (t : Table) (m : Time) (day : ℤ) (x : ℕ) : Type 0 where
  pub utc : Utc
  pub reading : L.utc_of_second t m.sec ≡ done utc
  pub on : utc.day ≡ day
  pub at : utc.second ≡ x

-- two texts that read to times one second apart
abbrev pub SecondApart : Table → List ℕ → List ℕ → Type 0
SecondApart t s s' = (m m' : Time) × (text_of t s ≡ done m) × (text_of t s' ≡ done m') × (difference_of m' m ≡ done second)

-- ---- "A shortened tag (a CUC code whose counter wraps, or an ASCII subset with its left part dropped) can mean many moments"
-- a tag as it is handed over: a CUC tag with its P octet, in front or apart, and epoch; or an ASCII tag
pub data Shortened : Type 0 where
  counter : List ℕ → Preamble → ℤ → Shortened
  letters : List ℕ → Shortened

abbrev pub list_by : Table → Shortened → Time → Time → Outcome (Named ℤ)
list_by t (counter s p e) from to = C.list_cuc s p e from to
list_by t (letters s) from to = T.list_ascii t s from to

-- m is "epoch + T + k × 256^c seconds" for some "whole k of 0 or more": epoch + T is what the tag, as a code, reads to
pub record Counted (t : Table) (s : List ℕ) (p : Preamble) (e : ℤ) (m : Time) : Type 0 where
  pub first : Time
  pub reads : scan_of t s p e ≡ done (scanned (length s) first)
  pub k : ℕ
  pub exact : worth m ≡ worth first +ℤ pos (k * 256 ^ coarse (octet_in s p) * per_second)

-- "names by the published code": of an ASCII tag, some full code of which the text is a shortening reads to the moment
abbrev pub NamedBy : Table → Shortened → Time → Type 0
NamedBy t (counter s p e) m = (is_record m ≡ true) × Counted t s p e m
NamedBy t (letters s) m = A.Names t s m

-- what stands in a list that a call filled: its first elements, as many as the answer says
abbrev pub shown : Listed → List ℤ → List ℤ
shown answer exit = take answer.count exit

-- a named moment of the window
pub record Wanted (t : Table) (tag : Shortened) (from to m : Time) : Type 0 where
  pub named : NamedBy t tag m
  pub inside : Inside from to m

pub record Lists (t : Table) (tag : Shortened) (from to : Time) (entry exit : List ℤ) (answer : Listed) : Type 0 where
  -- "exactly the moments in the window that the tag names": all of them, and nothing else ..
  pub all : List ℤ
  pub exactly : (m : Time) → ((m.ticks ≡ answer.ticks) × Among m.sec all) ↔ Wanted t tag from to m
  -- ".. ascending, each once"
  pub ascending : Ascending Sooner all
  -- "The number listed is the room or the number of named moments in the window, whichever is less", the earliest first
  pub number : answer.count ≡ min (length entry) (length all)
  pub first : shown answer exit ≡ take answer.count all
  -- "the earliest first when room runs out": a named moment that is not listed is later than all that are, and the room is full
  pub earliest : (m : Time) → Wanted t tag from to m → (Among m.sec (shown answer exit) → ⊥) → (answer.count ≡ length entry) × ((z : ℤ) → Among z (shown answer exit) → Sooner z m.sec)
  -- ""More" is said exactly when a further one remains"
  pub more : (answer.more ≡ true) ↔ ((m : Time) × (Wanted t tag from to m × (Among m.sec (shown answer exit) → ⊥)))
  -- "Elements beyond the number listed stay"
  pub stay : drop answer.count exit ≡ drop answer.count entry
