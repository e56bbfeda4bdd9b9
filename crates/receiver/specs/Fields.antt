-- A run of bytes that is read whole, one T-field after another (document 02, request 2).
use Rattle.std.specs.Prelude.{List, [], ◌∷◌, ℕ, zero, suc, ◌*◌, ◌/◌, length, drop}
use Rattle.base.specs.Outcome.{Outcome}
use Rattle.scale.specs.Time.{Time}
use Rattle.leap.specs.Table.{Table}
use Rattle.pfield.specs.declared.Layout.{Layout}
use Rattle.codes.specs.Reading.{field_of, width_of}

-- n T-fields from the start of a run on: each is what reading gives there, and the next follows it. "A refused T-field uses up its length"
unfoldable pub fields_in : Table → Layout → ℕ → List ℕ → List (Outcome Time)
fields_in t l zero s = []
fields_in t l (suc n) s = field_of t s 0 l ∷ fields_in t l n (drop (width_of l) s)

-- how many T-fields stand whole in a run
abbrev pub whole_in : Layout → List ℕ → ℕ
whole_in l s = length s / width_of l

-- "reading it whole, one T-field after another"
unfoldable pub answers_in : Table → Layout → List ℕ → List (Outcome Time)
answers_in t l s = fields_in t l (whole_in l s) s

-- "Bytes left at the end"
unfoldable pub left_in : Layout → List ℕ → List ℕ
left_in l s = drop (whole_in l s * width_of l) s
