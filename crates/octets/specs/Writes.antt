-- What a call that writes a code answers, and what it leaves in the lent bytes (document 01: "A written code fills the first bytes; later ones stay"; a refusal changes nothing).
use Rattle.std.specs.Prelude.{◌≡◌, List, ℕ, ◌+◌, length, Result}
use Rattle.base.specs.Outcome.{Outcome, done, refused, need, given}
use Rattle.base.specs.Said.{said}
use Rattle.base.specs.declared.Refusal.{Refusal}
use Rattle.octets.specs.Stores.{pasted, has_room}

-- the code from `at` on, where the lent bytes have room for it; else 8
unfoldable pub roomed : List ℕ → ℕ → List ℕ → Outcome (List ℕ)
roomed out at code = need (has_room out at code) 8 (done code)

-- where a code that starts at `at` ends
abbrev pub end_of : ℕ → List ℕ → ℕ
end_of at code = at + length code

-- what the lent bytes hold afterwards
abbrev pub filled : ℕ → Outcome (List ℕ) → List ℕ → List ℕ
filled at (done code) out = pasted out at code
filled at (refused n) out = out

-- the answer and the lent bytes, given the outcome
pub record Wrote (x : Outcome (List ℕ)) (at : ℕ) (old new : List ℕ) (a : Result ℕ Refusal) : Type 0 where
  pub answer : said a ≡ given (end_of at) x
  pub bytes : new ≡ filled at x old
