-- The refusals of a call by their conditions, in their order (document 01, "Refusal numbers", and document 02). A condition that has a sense only once the earlier ones hold is a test all the same, "said of" what they leave: where one of them is broken, `first_broken` does not come to it.
use Rattle.std.specs.Prelude.{◌≡◌, Bool, true, false, cond, ◌&&◌, List, [], ◌∷◌, ◌↔◌, ℕ, leb}
use Rattle.base.specs.Outcome.{Outcome, refused, status}
use Rattle.promises.specs.Promises.{Done, last_number}

-- a refusal's number, and the condition that spares it
pub record Rung : Type 0 where
  pub number : ℕ
  pub holds : Bool

abbrev pub rung : ℕ → Bool → Rung
rung n b = record { number = n; holds = b }

-- the number of the first rung that is broken, and 0 where all hold
abbrev pub first_broken : List Rung → ℕ
first_broken [] = 0
first_broken (r ∷ rs) = cond r.holds (first_broken rs) r.number

-- a rung of number n is broken, and every rung before it holds
pub data Broken (n : ℕ) : List Rung → Type 0 where
  here : {r : Rung} {rs : List Rung} → r.number ≡ n → r.holds ≡ false → Broken n (r ∷ rs)
  past : {r : Rung} {rs : List Rung} → r.holds ≡ true → Broken n rs → Broken n (r ∷ rs)

-- every rung holds
abbrev pub all_hold : List Rung → Bool
all_hold [] = true
all_hold (r ∷ rs) = r.holds && all_hold rs

-- every rung's number is a refusal's
abbrev pub numbered : List Rung → Bool
numbered [] = true
numbered (r ∷ rs) = (leb 1 r.number && leb r.number last_number) && numbered rs

-- a call is refused by its rungs: each refusal is given exactly when its rung is broken and every rung before it holds, and a result exactly when all hold
module _ {A : Type 0} where
  pub record Exactly (x : Outcome A) (rs : List Rung) : Type 0 where
    pub refuses : (n : ℕ) → (x ≡ refused n) ↔ Broken n rs
    pub passes : Done x ↔ (all_hold rs ≡ true)
    -- what a call from C answers
    pub answers : status x ≡ first_broken rs
