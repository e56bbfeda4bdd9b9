-- The moments that a naming rule names in a window, and what a lister answers of them (document 01, "Shortened tags"). A window takes its start and not its end.
use Rattle.std.specs.Prelude.{Bool, true, false, List, [], ◌∷◌, ◌++◌, ◌≡◌, ℕ, zero, suc, ◌-◌, ◌≤◌, ◌<◌, min, length, take, drop, ltb, Result, Option, Some, None}
use Rattle.base.specs.Outcome.{Outcome, done, refused, given}
use Rattle.base.specs.Said.{said}
use Rattle.base.specs.declared.Refusal.{Refusal}
use Rattle.window.specs.declared.Listed.{Listed}

-- `up n a` is the n numbers a, a + 1, ..
unfoldable pub up : ℕ → ℕ → List ℕ
up zero a = []
up (suc n) a = a ∷ up n (suc a)

-- the numbers from a, and before b
unfoldable pub range : ℕ → ℕ → List ℕ
range a b = up (b - a) a

unfoldable pub cons_if : Bool → ℕ → List ℕ → List ℕ
cons_if true x xs = x ∷ xs
cons_if false x xs = xs

-- the numbers of a list that pass a test, in their order
unfoldable pub filter : (ℕ → Bool) → List ℕ → List ℕ
filter p [] = []
filter p (x ∷ xs) = cons_if (p x) x (filter p xs)

-- all that p names in the window from a to before b: ascending, each once
unfoldable pub named_in : (ℕ → Bool) → ℕ → ℕ → List ℕ
named_in p a b = filter p (range a b)

-- p names nothing from a to before b
abbrev pub Unnamed : (ℕ → Bool) → ℕ → ℕ → Type 0
Unnamed p a b = (k : ℕ) → a ≤ k → k < b → p k ≡ false

-- the first of a list
unfoldable pub first_of : List ℕ → Option ℕ
first_of [] = None
first_of (x ∷ xs) = Some x

-- all that is named in a window, and the tick count that they share
pub record Named (A : Type 0) : Type 0 where
  pub ticks : ℕ
  pub all : List A

module _ {A : Type 0} where
  -- "The number listed is the room or the number of named moments in the window, whichever is less", and "more" tells whether a further one remains
  unfoldable pub listed : List A → Named A → Listed
  listed entry x = record { ticks = x.ticks; count = min (length entry) (length x.all); more = ltb (length entry) (length x.all) }

  -- the earliest ones fill the lent list; "Elements beyond the number listed stay"
  unfoldable pub list_filled : List A → List A → List A
  list_filled all entry =
      take (min (length entry) (length all)) all ++ drop (min (length entry) (length all)) entry

  abbrev pub leaves : Outcome (Named A) → List A → List A
  leaves (done x) entry = list_filled x.all entry
  leaves (refused n) entry = entry

  -- what a lister owes: the paper's outcome, and the lent list as it leaves it
  pub record Lists (x : Outcome (Named A)) (entry exit : List A) (r : Result Listed Refusal) : Type 0 where
    pub outcome : said r ≡ given (listed entry) x
    pub memory : exit ≡ leaves x entry
