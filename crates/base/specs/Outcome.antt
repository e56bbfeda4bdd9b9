-- What a call answers on paper: a value, or the number of a refusal of documents 01 and 02. A rule with its order of refusals is a ladder: each rung is a test, or a part that may itself be refused.
use Rattle.std.specs.Prelude.{Bool, true, false, ℕ}

pub data Outcome (A : Type 0) : Type 0 where
  done : A → Outcome A
  refused : ℕ → Outcome A

-- the test holds, or the refusal n
abbrev pub need : {A : Type 0} → Bool → ℕ → Outcome A → Outcome A
need true n k = k
need false n k = refused n

-- the part's value goes on, or its refusal stands
abbrev pub and_then : {A B : Type 0} → Outcome A → (A → Outcome B) → Outcome B
and_then (done a) k = k a
and_then (refused n) k = refused n

-- the same outcome, with something made of its value
abbrev pub given : {A B : Type 0} → (A → B) → Outcome A → Outcome B
given f (done a) = done (f a)
given f (refused n) = refused n

-- what a call from C answers: 0, or the number of the refusal
abbrev pub status : {A : Type 0} → Outcome A → ℕ
status (done a) = 0
status (refused n) = n

-- what a lent cell holds afterwards: what is made of the value, or, after a refusal, what it held
abbrev pub cell : {A B : Type 0} → (A → B) → Outcome A → B → B
cell f (done a) old = f a
cell f (refused n) old = old
