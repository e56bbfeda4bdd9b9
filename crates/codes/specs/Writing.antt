-- Writing a binary code by a leap second table (document 01, "Writing: record 7, then 2, 3, epoch 7, cover 5 (UTC codes only), target 7, room 8").
use Rattle.std.specs.Prelude.{Bool, true, false, List, ◌∷◌, ℕ, ℤ}
use Rattle.base.specs.Outcome.{Outcome, need, and_then}
use Rattle.scale.specs.Time.{Time, is_record}
use Rattle.octets.specs.Writes.{roomed}
use Rattle.leap.specs.Table.{Table}
use Rattle.utc.specs.Reckoning.{written_by}
use Rattle.cuc.specs.Cuc as U
use Rattle.cds.specs.Cds as D
use Rattle.ccs.specs.Ccs as C
use Rattle.pfield.specs.PField.{laid}
use Rattle.pfield.specs.declared.PField.{PField}
use Rattle.pfield.specs.declared.Codes.TheVariants.{All}
use Rattle.pfield.specs.declared.Preamble.{Preamble}
use Rattle.pfield.specs.declared.Preamble.TheVariants.{Front, Given}
use Rattle.pfield.specs.declared.Layout.{Layout}
use Rattle.pfield.specs.declared.Layout.TheVariants.{Cuc, Cds, Ccs}

-- the T-field of a time, by its code; for a UTC code the table comes first, the layout being judged by `laid`
abbrev pub bytes_of : Table → Layout → Time → Outcome (List ℕ)
bytes_of t (Cuc l) r = U.bytes_of l r
bytes_of t (Cds l) r = written_by t (D.bytes_of l) r
bytes_of t (Ccs l) r = written_by t (C.bytes_of l) r

-- "whether the octet is written"
abbrev pub code_of : Bool → PField → List ℕ → List ℕ
code_of true p c = p.octet ∷ c
code_of false p c = c

-- .. where the lent bytes have room for the code
abbrev pub fronted : Bool → PField → List ℕ → List ℕ → Outcome (List ℕ)
fronted front p out c = roomed out 0 (code_of front p c)

unfoldable pub write_of : Table → Time → PField → ℤ → Bool → List ℕ → Outcome (List ℕ)
write_of t r p e front out = need (is_record r) 7 (and_then (laid All p e) (λ l. and_then (bytes_of t l r) (fronted front p out)))

-- where the P-field of a written code is read from
abbrev pub from : Bool → PField → Preamble
from true p = Front
from false p = Given p
