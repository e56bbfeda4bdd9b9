-- The P octet (document 01, "The codes"): "Bit 0 is the most significant. P octet: bit 0 extension, bits 1-3 identification." Its refusals in the order 2, 3, epoch 7; an epoch is judged only if the code uses one.
use Rattle.std.specs.Prelude.{Bool, cond, ◌||◌, List, ℕ, ◌+◌, ◌*◌, ◌/◌, ◌%◌, ltb, leb, eqb, ℤ, pos, length, get_or}
use Rattle.base.specs.Outcome.{Outcome, done, need, given}
use Rattle.cuc.specs.Cuc.{is_epoch}
use Rattle.cds.specs.Cds.{is_epoch_day}
use Rattle.pfield.specs.declared.PField.{PField}
use Rattle.pfield.specs.declared.Preamble.{Preamble}
use Rattle.pfield.specs.declared.Preamble.TheVariants.{Front, Given}
use Rattle.pfield.specs.declared.Codes.{Codes}
use Rattle.pfield.specs.declared.Codes.TheVariants.{All, Cuc}
use Rattle.pfield.specs.declared.Layout.{Layout}
use Rattle.pfield.specs.declared.Layout.TheVariants as L
use Rattle.pfield.specs.declared.Head.{Head}

abbrev pub ident : ℕ → ℕ
ident o = o / 16 % 8

-- CUC 001 and 010, CDS 100, CCS 101; "identification 000, 011, 110, 111" is 2, "in a listing any but CUC"
unfoldable pub allows : Codes → ℕ → Bool
allows All n = eqb n 1 || eqb n 2 || eqb n 4 || eqb n 5
allows Cuc n = eqb n 1 || eqb n 2

-- bit 4
abbrev pub bit4 : ℕ → ℕ
bit4 o = o / 8 % 2

-- "CUC: 001 (epoch 1958) or 010 (caller's epoch, whole TAI seconds, -2^40 to 2^40 - 1). Bits 4-5: coarse octets less one. Bits 6-7: fine octets, 0 to 3"
unfoldable pub cuc_laid : ℕ → ℤ → Outcome Layout
cuc_laid o e =
    need (eqb (ident o) 1 || is_epoch e) 7
    (done (L.Cuc (record { epoch = cond (eqb (ident o) 1) (pos 0) e; coarse = o / 4 % 4 + 1; fine = o % 4 })))

-- "CDS: 100. Bit 4: 0 epoch 1958, 1 caller's epoch day (-2^24 to 2^24 - 1). Bit 5: 0 day in 16 bits, 1 in 24. Bits 6-7: 00 none, 01 microsecond of millisecond (16 bits ..), 10 picosecond of millisecond (32 bits ..), 11 refused"
unfoldable pub cds_laid : ℕ → ℤ → Outcome Layout
cds_laid o e =
    need (ltb (o % 4) 3) 3
    (need (eqb (bit4 o) 0 || is_epoch_day e) 7
    (done (L.Cds (record { epoch = cond (eqb (bit4 o) 0) (pos 0) e; day = o / 4 % 2 + 2; part = o % 4 * 2 }))))

-- "CCS: 101. Bit 4: 0 month and day, 1 day of year .. Bits 5-7: 0 to 6 extra segments of two decimal digits; 7 refused"
unfoldable pub ccs_laid : ℕ → Outcome Layout
ccs_laid o = need (ltb (o % 8) 7) 3 (done (L.Ccs (record { ordinal = eqb (bit4 o) 1; segments = o % 8 })))

-- by the identification
unfoldable pub laid_as : ℕ → ℤ → Outcome Layout
laid_as o e = cond (eqb (ident o) 5) (ccs_laid o) (cond (eqb (ident o) 4) (cds_laid o e) (cuc_laid o e))

-- "2, 3, epoch 7": an identification that is not allowed is 2 before all else is judged
unfoldable pub laid : Codes → PField → ℤ → Outcome Layout
laid c p e = need (allows c (ident p.octet)) 2 (need (ltb p.octet 128) 3 (laid_as p.octet e))

-- ---- where it stands
abbrev pub headed : ℕ → Layout → Head
headed n l = record { layout = l; start = n }

abbrev pub octet : ℕ → PField
octet o = record { octet = o }

-- "A P octet is read from the front or supplied by the caller apart": one that is missing is 1
unfoldable pub headed_of : Codes → List ℕ → Preamble → ℤ → Outcome Head
headed_of c s (Given p) e = given (headed 0) (laid c p e)
headed_of c s Front e = need (leb 1 (length s)) 1 (given (headed 1) (laid c (octet (get_or s 0 0)) e))
