-- Reading a binary code by a leap second table (document 01, "Order when reading: missing P 1, then 2, 3, epoch 7 (only if the code uses one), short T 1, 4, 5, 6").
use Rattle.std.specs.Prelude.{◌≡◌, List, ℕ, ◌+◌, ℤ}
use Rattle.base.specs.Outcome.{Outcome, done, refused, and_then, given}
use Rattle.scale.specs.Time.{Time}
use Rattle.leap.specs.Table.{Table}
use Rattle.leap.specs.Utc.{utc_of_second}
use Rattle.leap.specs.declared.Utc.{Utc}
use Rattle.utc.specs.Reckoning.{read_by}
use Rattle.cuc.specs.Cuc as U
use Rattle.cds.specs.Cds as D
use Rattle.ccs.specs.Ccs as C
use Rattle.pfield.specs.PField.{headed_of}
use Rattle.pfield.specs.declared.PField.{PField}
use Rattle.pfield.specs.declared.Codes.TheVariants.{All}
use Rattle.pfield.specs.declared.Layout.{Layout}
use Rattle.pfield.specs.declared.Layout.TheVariants.{Cuc, Cds, Ccs}
use Rattle.pfield.specs.declared.Preamble.{Preamble}
use Rattle.pfield.specs.declared.Preamble.TheVariants.{Given}

-- the time of the T-field from `at` on, by its code; a UTC code's by the table
abbrev pub field_of : Table → List ℕ → ℕ → Layout → Outcome Time
field_of t s at (Cuc l) = U.field s at l
field_of t s at (Cds l) = read_by t (D.field s at l)
field_of t s at (Ccs l) = read_by t (C.field s at l)

-- the octets of a T-field
abbrev pub width_of : Layout → ℕ
width_of (Cuc l) = U.width l
width_of (Cds l) = D.width l
width_of (Ccs l) = C.width l

-- the times that the T-fields of a layout read to
abbrev pub ReadsIn : Table → Layout → Time → Type 0
ReadsIn t l x = (s : List ℕ) × (field_of t s 0 l ≡ done x)

-- some T-field of a layout reads to a time on UTC day d
pub record HasDay (t : Table) (l : Layout) (d : ℤ) : Type 0 where
  pub time : Time
  pub reads : ReadsIn t l time
  pub utc : Utc
  pub reading : utc_of_second t time.sec ≡ done utc
  pub on : utc.day ≡ d

-- what a reading says: a moment, and how many bytes its code takes
pub record Scanned : Type 0 where
  pub moment : Time
  pub used : ℕ

abbrev pub scanned : ℕ → Time → Scanned
scanned n m = record { moment = m; used = n }

unfoldable pub scan_in : Table → List ℕ → ℕ → Layout → Outcome Scanned
scan_in t s at l = given (scanned (at + width_of l)) (field_of t s at l)

-- "missing P 1, then 2, 3, epoch 7": the P-field says where the T-field is and how it is laid out
unfoldable pub scan_of : Table → List ℕ → Preamble → ℤ → Outcome Scanned
scan_of t s p e = and_then (headed_of All s p e) (λ h. scan_in t s h.start h.layout)

-- how many bytes a reading took: none where it was refused
abbrev pub used_of : Outcome Scanned → ℕ
used_of (done x) = x.used
used_of (refused n) = 0

-- the times that can be read under a P-field and an epoch
abbrev pub Readable : Table → PField → ℤ → Time → Type 0
Readable t p e x = (s : List ℕ) × ((n : ℕ) × (scan_of t s (Given p) e ≡ done (scanned n x)))
