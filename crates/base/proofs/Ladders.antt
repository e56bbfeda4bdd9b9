-- A ladder of tests, taken apart: by the value that it ends in, or by the refusal.
use mathlib.Core.Path.{◌≡◌, refl, ap, ◌∙◌}
use mathlib.Core.Bool.{Bool, true, false, ◌&&◌}
use mathlib.Core.Logic.{◌⊎◌, inl, inr}
use Prim.Native.Nat.{ℕ}
use native.Mathlib.Omega.{arith}
use Rattle.base.specs.Outcome.{Outcome, done, refused, need, and_then, given}
use Rattle.base.proofs.Bools.{and_left, and_right}

-- a refusal is no value
pub never : {A X : Type 0} (n : ℕ) (b : A) → ◌≡◌ {A = Outcome A} (refused n) (done b) → X
never n b h = absurd (let z : ◌≡◌ {A = ℕ} 0 1 = cc in let y : ⊥ = omega arith in y)

pub done_is : {A : Type 0} (a b : A) → ◌≡◌ {A = Outcome A} (done a) (done b) → a ≡ b
done_is a b h = cc

pub refused_is : {A : Type 0} (m n : ℕ) → ◌≡◌ {A = Outcome A} (refused m) (refused n) → m ≡ n
refused_is m n h = cc

-- a rung that is known
pub need_yes : {A : Type 0} {t : Bool} (n : ℕ) (x : Outcome A) → t ≡ true → need t n x ≡ x
need_yes n x h = rw h

pub need_no : {A : Type 0} {t : Bool} (n : ℕ) (x : Outcome A) → t ≡ false → need t n x ≡ refused n
need_no n x h = rw h

-- two rungs, known together
pub needs_yes : {A : Type 0} (a b : Bool) (m n : ℕ) (x : Outcome A) → (a && b) ≡ true → need a m (need b n x) ≡ x
needs_yes a b m n x h = need_yes m _ (and_left a b h) ∙ need_yes n x (and_right a b h)

-- a ladder that ends in a value passed each rung
pub need_done : {A : Type 0} (t : Bool) (n : ℕ) (x : Outcome A) (b : A) → need t n x ≡ done b → (t ≡ true) × (x ≡ done b)
need_done true n x b h = (refl, h)
need_done false n x b h = never n b h

pub needs_done : {A : Type 0} (a b : Bool) (m n : ℕ) (x : Outcome A) (v : A) → need a m (need b n x) ≡ done v → ((a && b) ≡ true) × (x ≡ done v)
needs_done true b m n x v h = need_done b n x v h
needs_done false b m n x v h = never m v h

pub then_done : {A B : Type 0} (x : Outcome A) (k : A → Outcome B) (b : B) → and_then x k ≡ done b → (a : A) × ((x ≡ done a) × (k a ≡ done b))
then_done (done a) k b h = (a, (refl, h))
then_done (refused n) k b h = never n b h

pub given_done : {A B : Type 0} (f : A → B) (x : Outcome A) (b : B) → given f x ≡ done b → (a : A) × ((x ≡ done a) × (f a ≡ b))
given_done f (done a) b h = (a, (refl, done_is (f a) b h))
given_done f (refused n) b h = never n b h

-- one that ends in a refusal was stopped at a rung, or further on
pub need_refused : {A : Type 0} (t : Bool) (n m : ℕ) (x : Outcome A) → need t n x ≡ refused m → ((t ≡ false) × (n ≡ m)) ⊎ ((t ≡ true) × (x ≡ refused m))
need_refused true n m x h = inr (refl, h)
need_refused false n m x h = inl (refl, refused_is n m h)

pub then_refused : {A B : Type 0} (x : Outcome A) (k : A → Outcome B) (m : ℕ) → and_then x k ≡ refused m → (x ≡ refused m) ⊎ ((a : A) × ((x ≡ done a) × (k a ≡ refused m)))
then_refused (done a) k m h = inr (a, (refl, h))
then_refused (refused n) k m h = inl (ap refused (refused_is n m h))

-- two rungs that refuse one value refuse any other
pub unsettled : {A B : Type 0} (a b : Bool) (m k : ℕ) (v : A) (x : Outcome B) (n : ℕ) → refused n ≡ need a m (need b k (done v)) → refused n ≡ need a m (need b k x)
unsettled true true m k v x n h = never n v h
unsettled true false m k v x n h = cc
unsettled false b m k v x n h = cc
