-- Where the first bad field of a binary code begins (document 02, request 3: "the offset of the first byte of the first field that breaks its rule, in the code's own order"), by the list of its fields with their rules (document 01, "The codes").
use Rattle.std.specs.Prelude.{Bool, true, false, cond, ◌&&◌, List, [], ◌∷◌, ◌++◌, ℕ, zero, suc, ◌+◌, leb, ltb, ℤ, length, Result, Option, Ok, Err, None}
use Rattle.base.specs.Outcome.{Outcome, done, refused}
use Rattle.octets.specs.Counts.{count_at, bcd_at}
use Rattle.calendar.specs.Gregorian.{is_year}
use Rattle.field.specs.Fields.{Field, field, first_bad, shifted, or_then}
use Rattle.field.specs.Rules.{is_month, is_day, is_day_of_year, is_hour, is_minute, is_second}
use Rattle.cuc.specs.declared.Layout as U
use Rattle.cds.specs.Cds.{parts}
use Rattle.cds.specs.declared.Layout as D
use Rattle.ccs.specs.declared.Layout as C
use Rattle.pfield.specs.PField.{headed_of}
use Rattle.pfield.specs.declared.Codes.{Codes}
use Rattle.pfield.specs.declared.Layout.{Layout}
use Rattle.pfield.specs.declared.Layout.TheVariants.{Cuc, Cds, Ccs}
use Rattle.pfield.specs.declared.Preamble.{Preamble}
use Rattle.codes.specs.Reading.{width_of}
use Rattle.base.specs.declared.Refusal.{Refusal}
use Rattle.pfield.specs.declared.Head.{Head}

-- ---- a field of octets
-- it can be read, and its number keeps the rule
abbrev pub kept : Result ℕ Refusal → (ℕ → Bool) → Bool
kept (Ok n) rule = rule n
kept (Err why) rule = false

-- its number, of which a later field's rule speaks
abbrev pub number_in : Result ℕ Refusal → ℕ
number_in (Ok n) = n
number_in (Err why) = 0

abbrev pub any : ℕ → Bool
any n = true

-- ---- CUC: seconds and parts of a second are counts, which have no rule beyond being octets
abbrev pub cuc_fields : List ℕ → ℕ → U.Layout → List Field
cuc_fields s at l = field 0 (kept (count_at s at l.coarse) any) ∷ field l.coarse (kept (count_at s (at + l.coarse) l.fine) any) ∷ []

-- ---- CDS: "Order: day, millisecond of day (32 bits, 0 to 86,400,999), remainder"
abbrev pub cds_fields : List ℕ → ℕ → D.Layout → List Field
cds_fields s at l =
    field 0 (kept (count_at s at l.day) any) ∷
    field l.day (kept (count_at s (at + l.day) 4) (λ m. leb m 86400999)) ∷
    field (l.day + 4) (kept (count_at s (at + l.day + 4) l.part) (λ p. ltb p (parts l.part))) ∷ []

-- ---- CCS: "All BCD: year (16 bits), date, hour, minute, second, fractions"
-- "month and day", or "day of year (16 bits, top four zero)"
abbrev pub date_in : Bool → List ℕ → ℕ → List Field
date_in true s at =
    let y = bcd_at s at 2 in
    field 0 (kept y is_year) ∷ field 2 (kept (bcd_at s (at + 2) 2) (is_day_of_year (number_in y))) ∷ []
date_in false s at =
    let y = bcd_at s at 2 in
    let m = bcd_at s (at + 2) 1 in
    field 0 (kept y is_year) ∷ field 2 (kept m is_month) ∷ field 3 (kept (bcd_at s (at + 3) 1) (is_day (number_in y) (number_in m))) ∷ []

abbrev pub clock_in : List ℕ → ℕ → List Field
clock_in s at =
    let h = bcd_at s (at + 4) 1 in
    let m = bcd_at s (at + 5) 1 in
    field 4 (kept h is_hour) ∷ field 5 (kept m is_minute) ∷ field 6 (kept (bcd_at s (at + 6) 1) (is_second (number_in h) (number_in m))) ∷ []

-- "extra segments of two decimal digits", from the i-th octet on
abbrev pub segments_in : List ℕ → ℕ → ℕ → ℕ → List Field
segments_in s at i zero = []
segments_in s at i (suc n) = field i (kept (bcd_at s (at + i) 1) (λ d. ltb d 100)) ∷ segments_in s at (suc i) n

abbrev pub ccs_fields : List ℕ → ℕ → C.Layout → List Field
ccs_fields s at l = date_in l.ordinal s at ++ (clock_in s at ++ segments_in s at 7 l.segments)

-- ---- the T-field of a layout from `at` on, its fields counted from there: one that is not all there, or of no layout, has none
abbrev pub fields_by : List ℕ → ℕ → Layout → List Field
fields_by s at (Cuc l) = cuc_fields s at l
fields_by s at (Cds l) = cds_fields s at l
fields_by s at (Ccs l) = ccs_fields s at l

unfoldable pub fields_at : List ℕ → ℕ → Layout → List Field
fields_at s at l = cond (ltb 0 (width_of l) && leb (at + width_of l) (length s)) (fields_by s at l) []

-- "elsewhere from the input's": counted from the start of the input
abbrev pub place_in : List ℕ → ℕ → Layout → Option ℕ
place_in s at l = shifted at (first_bad (fields_at s at l))

-- in a code whose P-field is read: of any other input nothing is told
abbrev pub headed_place : (ℕ → Layout → Option ℕ) → Outcome Head → Option ℕ
headed_place f (done h) = f h.start h.layout
headed_place f (refused n) = None

unfoldable pub binary_place : List ℕ → Preamble → ℤ → Option ℕ
binary_place s p e = headed_place (place_in s) (headed_of Codes.All s p e)

-- ---- a CUC tag: "for extra bytes the first extra one"
abbrev pub end_field : List ℕ → ℕ → Layout → List Field
end_field s at l = let end = at + width_of l in field end (leb (length s) end) ∷ []

unfoldable pub cuc_tag_place : List ℕ → Preamble → ℤ → Option ℕ
cuc_tag_place s p e = headed_place (λ at l. or_then (place_in s at l) (first_bad (end_field s at l))) (headed_of Codes.Cuc s p e)
