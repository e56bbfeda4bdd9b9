-- The fields of a code, each with its rule (document 02, request 3: "Refusal 4 must carry the offset of the first byte of the first field that breaks its rule, in the code's own order").
use Rattle.std.specs.Prelude.{Bool, cond, List, [], ◌∷◌, ℕ, ◌+◌, eqb, Option, Some, None}
use Rattle.base.specs.Outcome.{Outcome, status}

-- a field: where its first byte is, and whether it keeps its rule
pub record Field : Type 0 where
  pub start : ℕ
  pub kept : Bool

abbrev pub field : ℕ → Bool → Field
field n b = record { start = n; kept = b }

-- where the first that breaks its rule begins
abbrev pub first_bad : List Field → Option ℕ
first_bad [] = None
first_bad (f ∷ fs) = cond f.kept (first_bad fs) (Some f.start)

-- the place counted from n bytes further on the left
abbrev pub shifted : ℕ → Option ℕ → Option ℕ
shifted n (Some i) = Some (n + i)
shifted n None = None

-- the first place, or where there is none the second
abbrev pub or_then : Option ℕ → Option ℕ → Option ℕ
or_then (Some i) p = Some i
or_then None p = p

-- what an answer carries: "Refusal 4 must carry the offset", and no other does
abbrev pub carried_by : ℕ → Option ℕ → Option ℕ
carried_by n p = cond (eqb n 4) p None

abbrev pub carried : {A : Type 0} → Outcome A → Option ℕ → Option ℕ
carried x p = carried_by (status x) p

-- the offset as a number: 0 where none is carried
abbrev pub offset : Option ℕ → ℕ
offset (Some n) = n
offset None = 0
