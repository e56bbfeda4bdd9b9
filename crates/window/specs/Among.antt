-- What it is to stand in a list, and to stand there in order.
use Rattle.std.specs.Prelude.{List, [], ◌∷◌}

module _ {A : Type 0} where
  pub data Among (x : A) : List A → Type 0 where
    here : {xs : List A} → Among x (x ∷ xs)
    there : {y : A} {xs : List A} → Among x xs → Among x (y ∷ xs)

  -- each before all that follow it: ascending, and each once
  pub data Ascending (Before : A → A → Type 0) : List A → Type 0 where
    none : Ascending Before []
    first : {x : A} {xs : List A} → ((y : A) → Among y xs → Before x y) → Ascending Before xs → Ascending Before (x ∷ xs)
