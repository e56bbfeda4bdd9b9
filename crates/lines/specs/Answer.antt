-- What is printed for one line (document 01: "For each it prints one line: the record in the default setting, or "refused " and the number").
use Rattle.std.specs.Prelude.{List, [], ◌∷◌, ◌++◌, cond, ℕ, leb, ltb, length}
use Rattle.base.specs.Outcome.{Outcome, done, refused, need, and_then}
use Rattle.octets.specs.Places.{digits}
use Rattle.shape.specs.Quoted.{bytes}
use Rattle.leap.specs.Table.{Table}
use Rattle.codes.specs.Text.{text_of, letters}
use Rattle.codes.specs.Setting.{default_layout}

-- a number in one digit, or from 10 on in two
abbrev pub figures : ℕ → ℕ
figures n = cond (ltb n 10) 1 2

-- a code, or a refusal's number, and the line feed
unfoldable pub printed : Outcome (List ℕ) → List ℕ
printed (done code) = code ++ 10 ∷ []
printed (refused n) = bytes "refused " ++ (digits (figures n) n ++ 10 ∷ [])

-- "A line over 64 bytes is 4"; else it is read as a full ASCII code, and the record is written in the default setting
unfoldable pub outcome_of : Table → List ℕ → Outcome (List ℕ)
outcome_of t p = need (leb (length p) 64) 4 (and_then (text_of t p) (letters t default_layout))

abbrev pub answer_of : Table → List ℕ → List ℕ
answer_of t p = printed (outcome_of t p)
