-- The P octet's words (document 01, "The codes"), each said once; its identification and bit 4 are `ident` and `bit4` of the codes.
use Rattle.std.specs.Prelude.{Bool, true, cond, List, ℕ, ◌+◌, ◌*◌, ◌/◌, ◌%◌, leb, ltb, eqb, length, get_or}
use Rattle.pfield.specs.PField.{ident, bit4}
use Rattle.pfield.specs.declared.Preamble.{Preamble}
use Rattle.pfield.specs.declared.Preamble.TheVariants.{Front, Given}

-- ---- "A P octet is read from the front or supplied by the caller apart"
abbrev pub octet_there : List ℕ → Preamble → Bool
octet_there s Front = leb 1 (length s)
octet_there s (Given o) = true

abbrev pub octet_in : List ℕ → Preamble → ℕ
octet_in s Front = get_or s 0 0
octet_in s (Given p) = p.octet

-- where the T-field begins
abbrev pub field_at : Preamble → ℕ
field_at Front = 1
field_at (Given o) = 0

-- ---- its bits
-- "bit 0 extension" is not set
abbrev pub unextended : ℕ → Bool
unextended o = ltb o 128

-- by its identification: CCS 101, CDS 100, and else CUC, once "identification 000, 011, 110, 111" are refused
abbrev pub by_code : {A : Type 0} → ℕ → A → A → A → A
by_code o cuc cds ccs = cond (eqb (ident o) 5) ccs (cond (eqb (ident o) 4) cds cuc)

abbrev pub bits67 : ℕ → ℕ
bits67 o = o % 4

-- CUC: "001 (epoch 1958) or 010 (caller's epoch ..). Bits 4-5: coarse octets less one. Bits 6-7: fine octets, 0 to 3"
abbrev pub cuc_from1958 : ℕ → Bool
cuc_from1958 o = eqb (ident o) 1

abbrev pub coarse : ℕ → ℕ
coarse o = o / 4 % 4 + 1

abbrev pub fine : ℕ → ℕ
fine o = bits67 o

-- CDS: "Bit 4: 0 epoch 1958, 1 caller's epoch day .. Bit 5: 0 day in 16 bits, 1 in 24. Bits 6-7: 00 none, 01 microsecond of millisecond (16 bits ..), 10 picosecond of millisecond (32 bits ..)"
abbrev pub cds_from1958 : ℕ → Bool
cds_from1958 o = eqb (bit4 o) 0

abbrev pub day_octets : ℕ → ℕ
day_octets o = o / 4 % 2 + 2

abbrev pub part_octets : ℕ → ℕ
part_octets o = bits67 o * 2

-- CCS: "Bit 4: 0 month and day, 1 day of year .. Bits 5-7: 0 to 6 extra segments of two decimal digits"
abbrev pub by_ordinal : ℕ → Bool
by_ordinal o = eqb (bit4 o) 1

abbrev pub segments : ℕ → ℕ
segments o = o % 8
