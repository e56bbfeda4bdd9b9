-- Binary codes, read and written (document 01: "Order when reading: missing P 1, then 2, 3, epoch 7 (only if the code uses one), short T 1, 4, 5, 6. Writing: record 7, then 2, 3, epoch 7, cover 5 (UTC codes only), target 7, room 8").
use Rattle.std.specs.Prelude.{Bool, true, false, cond, ◌&&◌, ◌||◌, List, [], ◌∷◌, ◌++◌, ℕ, ◌+◌, ◌-◌, ◌/◌, ◌^◌, leb, ltb, eqb, ℤ, pos, nat_abs, ◌+ℤ◌, ◌-ℤ◌, length, drop}
use Rattle.base.specs.Parts.{within}
use Rattle.scale.specs.Time.{Time, is_record}
use Rattle.octets.specs.Places.{be, octet_good, bcd_of, bcd_good, all_good}
use Rattle.calendar.specs.Gregorian.{is_date, is_ordinal, day_index, day_of_year, from_epoch}
use Rattle.clock.specs.Clock.{clock_ok, second_of_day}
use Rattle.leap.specs.Table.{Table, day_holding}
use Rattle.leap.specs.Utc.{second_raise}
use Rattle.cuc.specs.Cuc.{is_epoch, holds}
use Rattle.cuc.specs.declared.Layout as U
use Rattle.cds.specs.Cds.{is_epoch_day}
use Rattle.cds.specs.declared.Layout as D
use Rattle.ccs.specs.declared.Layout as C
use Rattle.ascii.specs.Ascii.{bit}
use Rattle.pfield.specs.PField.{ident, allows}
use Rattle.pfield.specs.declared.Codes.TheVariants.{All}
use Rattle.pfield.specs.declared.Preamble.{Preamble}
use Rattle.pfield.specs.declared.Layout.{Layout}
use Rattle.pfield.specs.declared.Layout.TheVariants.{Cuc, Cds, Ccs}
use Rattle.promises.specs.Octet.{octet_there, octet_in, field_at, unextended, by_code, bits67, cuc_from1958, coarse, fine, cds_from1958, day_octets, part_octets, by_ordinal, segments}
use Rattle.promises.specs.Rungs.{Rung, rung}
use Rattle.promises.specs.RungsCalendar.{covered_day, covered_second, has_second}

-- ---- the P octet
-- "extension bit set, CDS 11, CCS 7" are 3
abbrev pub supported : ℕ → Bool
supported o = unextended o && by_code o true (ltb (bits67 o) 3) (ltb (segments o) 7)

-- "epoch 7 (only if the code uses one)": what counts from 1958 does not, and CCS has none
abbrev pub cuc_epoch_good : ℕ → ℤ → Bool
cuc_epoch_good o e = cuc_from1958 o || is_epoch e

abbrev pub cds_epoch_good : ℕ → ℤ → Bool
cds_epoch_good o e = cds_from1958 o || is_epoch_day e

abbrev pub epoch_good : ℕ → ℤ → Bool
epoch_good o e = by_code o (cuc_epoch_good o e) (cds_epoch_good o e) true

abbrev pub octet_rungs : ℕ → ℤ → List Rung
octet_rungs o e = rung 2 (allows All (ident o)) ∷ rung 3 (supported o) ∷ rung 7 (epoch_good o e) ∷ []

-- ---- the layout that a P octet gives: said of one that is not refused
abbrev pub cuc_of : ℕ → ℤ → U.Layout
cuc_of o e = record { epoch = cond (cuc_from1958 o) (pos 0) e; coarse = coarse o; fine = fine o }

abbrev pub cds_of : ℕ → ℤ → D.Layout
cds_of o e = record { epoch = cond (cds_from1958 o) (pos 0) e; day = day_octets o; part = part_octets o }

abbrev pub ccs_of : ℕ → C.Layout
ccs_of o = record { ordinal = by_ordinal o; segments = segments o }

abbrev pub layout_of : ℕ → ℤ → Layout
layout_of o e = by_code o (Cuc (cuc_of o e)) (Cds (cds_of o e)) (Ccs (ccs_of o))

-- the octets of its T-field: coarse and fine; day, millisecond of day and remainder; year, date, clock and segments
abbrev pub octets_of : Layout → ℕ
octets_of (Cuc l) = l.coarse + l.fine
octets_of (Cds l) = l.day + 4 + l.part
octets_of (Ccs l) = 7 + l.segments

-- ---- the fields of a T-field from `at` on: said of one that is all there
abbrev pub count_in : List ℕ → ℕ → ℕ → ℕ
count_in s at w = be (drop at s) w

abbrev pub pairs_in : List ℕ → ℕ → ℕ → ℕ
pairs_in s at w = bcd_of (drop at s) w

abbrev pub milli_in : List ℕ → ℕ → D.Layout → ℕ
milli_in s at l = count_in s (at + l.day) 4

abbrev pub part_in : List ℕ → ℕ → D.Layout → ℕ
part_in s at l = count_in s (at + l.day + 4) l.part

-- "microsecond of millisecond (16 bits, 0 to 999) .. picosecond of millisecond (32 bits, 0 to 999,999,999)"
abbrev pub part_good : ℕ → ℕ → Bool
part_good w p = cond (eqb w 0) true (cond (eqb w 2) (leb p 999) (leb p 999999999))

-- the year and the date: "0 month and day, 1 day of year (16 bits, top four zero)", and no year has a day from 1000 on
abbrev pub date_good : Bool → List ℕ → ℕ → Bool
date_good true s at = is_ordinal (pairs_in s at 2) (pairs_in s (at + 2) 2)
date_good false s at = is_date (pairs_in s at 2) (pairs_in s (at + 2) 1) (pairs_in s (at + 3) 1)

abbrev pub index_in : Bool → List ℕ → ℕ → ℕ
index_in true s at = day_index (pairs_in s at 2) (pairs_in s (at + 2) 2)
index_in false s at = day_index (pairs_in s at 2) (day_of_year (pairs_in s at 2) (pairs_in s (at + 2) 1) (pairs_in s (at + 3) 1))

abbrev pub clock_good : List ℕ → ℕ → Bool
clock_good s at = clock_ok (pairs_in s at 1) (pairs_in s (at + 1) 1) (pairs_in s (at + 2) 1)

abbrev pub second_in : List ℕ → ℕ → ℕ
second_in s at = second_of_day (pairs_in s at 1) (pairs_in s (at + 1) 1) (pairs_in s (at + 2) 1)

-- "a field, BCD digit .. breaks its rule" is 4. A count's octets are below 256, as all that a slice of bytes holds; CUC has no other rule. "millisecond of day (32 bits, 0 to 86,400,999)"
abbrev pub field_good : List ℕ → ℕ → Layout → Bool
field_good s at (Cuc l) = all_good octet_good (drop at s) (l.coarse + l.fine)
field_good s at (Cds l) = all_good octet_good (drop at s) (l.day + 4 + l.part) && (leb (milli_in s at l) 86400999 && part_good l.part (part_in s at l))
field_good s at (Ccs l) = all_good bcd_good (drop at s) (7 + l.segments) && (date_good l.ordinal s at && clock_good s (at + 4))

-- the UTC day that the field names is in the table; CUC names no UTC day
abbrev pub day_good : Table → List ℕ → ℕ → Layout → Bool
day_good t s at (Cuc l) = true
day_good t s at (Cds l) = covered_day t (l.epoch +ℤ pos (count_in s at l.day))
day_good t s at (Ccs l) = covered_day t (from_epoch (index_in l.ordinal s at))

-- "a second 60 (or millisecond from 86,400,000) on a day without one"
abbrev pub second_good : Table → List ℕ → ℕ → Layout → Bool
second_good t s at (Cuc l) = true
second_good t s at (Cds l) = has_second t (l.epoch +ℤ pos (count_in s at l.day)) (milli_in s at l / 1000)
second_good t s at (Ccs l) = has_second t (from_epoch (index_in l.ordinal s at)) (second_in s (at + 4))

abbrev pub field_rungs : Table → List ℕ → ℕ → Layout → List Rung
field_rungs t s at l =
    rung 1 (leb (at + octets_of l) (length s)) ∷
    rung 4 (field_good s at l) ∷
    rung 5 (day_good t s at l) ∷
    rung 6 (second_good t s at l) ∷ []

abbrev pub read_binary_rungs : Table → List ℕ → Preamble → ℤ → List Rung
read_binary_rungs t s p e =
    rung 1 (octet_there s p) ∷ (octet_rungs (octet_in s p) e ++ field_rungs t s (field_at p) (layout_of (octet_in s p) e))

-- ---- writing
-- "cover 5 (UTC codes only)"
abbrev pub source_good : Table → Layout → Time → Bool
source_good t (Cuc l) r = true
source_good t (Cds l) r = covered_second t r.sec
source_good t (Ccs l) r = covered_second t r.sec

-- the UTC day of a covered second
abbrev pub utc_day : Table → ℤ → ℤ
utc_day t z = from_epoch (day_holding t (nat_abs (z +ℤ pos second_raise)))

-- "A target holds a source when its count of whole seconds from the epoch, taken downward (CUC), or of UTC days from the epoch (CDS), is not negative and fits the field. CCS and ASCII hold every covered moment"
abbrev pub target_good : Table → Layout → Time → Bool
target_good t (Cuc l) r = holds l r
target_good t (Cds l) r = within (pos 0) (pos (256 ^ l.day - 1)) (utc_day t r.sec -ℤ l.epoch)
target_good t (Ccs l) r = true

-- the octets of the code: the P octet's, where it is written, and the T-field's
abbrev pub code_octets : Bool → Layout → ℕ
code_octets front l = bit front + octets_of l

abbrev pub target_rungs : Table → Layout → Time → Bool → List ℕ → List Rung
target_rungs t l r front out =
    rung 5 (source_good t l r) ∷ rung 7 (target_good t l r) ∷ rung 8 (leb (code_octets front l) (length out)) ∷ []

abbrev pub write_binary_rungs : Table → Time → ℕ → ℤ → Bool → List ℕ → List Rung
write_binary_rungs t r o e front out = rung 7 (is_record r) ∷ (octet_rungs o e ++ target_rungs t (layout_of o e) r front out)
