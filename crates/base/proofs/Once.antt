-- Uniqueness: an answer from which there is a way back is told apart by what it says, so two answers that meet `says r ≡ o` are equal.
use mathlib.Core.Path.{◌≡◌, refl, sym, ap, ◌∙◌}
use mathlib.Core.Bool.{cond}
use Prim.Native.Nat.{ℕ}
use lib.Dec.{eqb}
use Rattle.std.specs.Prelude.{Result, Ok, Err}
use Rattle.base.specs.Outcome.{Outcome, done, refused}
use Rattle.base.specs.Refusals.{number}
use Rattle.base.proofs.Ladders.{never, done_is}
use Rattle.base.specs.Said.{said, says}
use Rattle.base.specs.declared.Refusal.{Refusal}
use Rattle.base.specs.declared.Refusal.TheVariants.{Short, Identification, Unsupported, Field, Uncovered, NoSuchSecond, Range, Room, Window, NotElapsed, OffGrid}

pub once : {X Y : Type 0} (says : X → Y) (back : Y → X) → ((x : X) → back (says x) ≡ x) → (o : Y) (a b : X) → says a ≡ o → says b ≡ o → a ≡ b
once says back e o a b p q = sym (e a) ∙ ap back (p ∙ sym q) ∙ e b

abbrev pub refusal_of : ℕ → Refusal
refusal_of n =
    cond (eqb n 1) Short (cond (eqb n 2) Identification (cond (eqb n 3) Unsupported (cond (eqb n 4) Field (cond (eqb n 5) Uncovered (cond (eqb n 6) NoSuchSecond (cond (eqb n 7) Range (cond (eqb n 8) Room (cond (eqb n 9) Window (cond (eqb n 10) NotElapsed OffGrid)))))))))

pub refusal_back : (r : Refusal) → refusal_of (number r) ≡ r
refusal_back Short = refl
refusal_back Identification = refl
refusal_back Unsupported = refl
refusal_back Field = refl
refusal_back Uncovered = refl
refusal_back NoSuchSecond = refl
refusal_back Range = refl
refusal_back Room = refl
refusal_back Window = refl
refusal_back NotElapsed = refl
refusal_back OffGrid = refl

-- an answer with a case for the value and one for the refusal, from the outcome that it says
abbrev pub answer : {A X : Type 0} → (A → X) → (Refusal → X) → Outcome A → X
answer make refuse (done a) = make a
answer make refuse (refused n) = refuse (refusal_of n)

pub answer_once : {A X : Type 0} (says : X → Outcome A) (make : A → X) (refuse : Refusal → X) → ((x : X) → answer make refuse (says x) ≡ x) → (o : Outcome A) (a b : X) → says a ≡ o → says b ≡ o → a ≡ b
answer_once says make refuse e = once says (answer make refuse) e

-- the same of a `Result`
abbrev heard : {A B : Type 0} → (B → A) → Outcome B → Result A Refusal
heard back (done b) = Ok (back b)
heard back (refused n) = Err (refusal_of n)

pub says_once : {A B : Type 0} (f : A → B) (back : B → A) → ((a : A) → back (f a) ≡ a) → (o : Outcome B) (a b : Result A Refusal) → says f a ≡ o → says f b ≡ o → a ≡ b
says_once f back e = once (says f) (heard back) (elim [ Ok a ↦ ap Ok (e a) | Err why ↦ ap Err (refusal_back why) ])

pub said_once : {A : Type 0} (o : Outcome A) (a b : Result A Refusal) → said a ≡ o → said b ≡ o → a ≡ b
said_once = once said (heard (λ a. a)) (elim [ Ok a ↦ refl | Err why ↦ ap Err (refusal_back why) ])

-- what says a value is it
pub said_done : {A : Type 0} (r : Result A Refusal) (a : A) → said r ≡ done a → r ≡ Ok a
said_done (Ok b) a e = ap Ok (done_is b a e)
said_done (Err why) a e = never (number why) a e
