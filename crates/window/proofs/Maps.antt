-- A list whose elements are written in another form: who stands in it, and in which order.
use mathlib.Core.List.{List, [], ◌∷◌, map}
use mathlib.Core.Path.{◌≡◌, refl, subst}
use mathlib.Core.Logic.{◌⊎◌, inl, inr, ⊎_elim}
use Rattle.window.specs.Among.{Among, here, there, Ascending, none, first}

module _ {A C : Type 0} (f : A → C) where
  pub among_map : {x : A} {l : List A} → Among x l → Among (f x) (map f l)
  among_map here = here
  among_map (there i) = there (among_map i)

  among_split : {y a : C} {l : List C} → Among y (a ∷ l) → (a ≡ y) ⊎ Among y l
  among_split here = inl refl
  among_split (there i) = inr i

  pub among_of : (y : C) (l : List A) → Among y (map f l) → (x : A) × ((Among x l) × (f x ≡ y))
  among_of y [] i = elim i [ ]
  among_of y (x ∷ l) i =
      ⊎_elim (λ (e : f x ≡ y). (x, (here, e)))
      (λ (j : Among y (map f l)). let (z, (k, e)) = among_of y l j in (z, (there k, e)))
      (among_split i)

  module _ (R : A → A → Type 0) (S : C → C → Type 0) (keeps : (x y : A) → R x y → S (f x) (f y)) where
    pub ascends_map : {l : List A} → Ascending R l → Ascending S (map f l)
    ascends_map none = none
    ascends_map (first {x} {xs} g rest) =
        first (λ y i. let (z, (j, e)) = among_of y xs i in subst (S (f x)) e (keeps x z (g z j))) (ascends_map rest)
