-- Tests and choices whose outcome is known.
use mathlib.Core.Path.{◌≡◌, refl, sym, ap}
use mathlib.Core.Bool.{Bool, true, false, cond, ◌&&◌, false≢true}

-- a test that fails does not hold
pub never_both : {X : Type 0} {b : Bool} → b ≡ true → b ≡ false → X
never_both {b = true} p q = absurd (false≢true (sym q))
never_both {b = false} p q = absurd (false≢true p)

-- a conjunction that holds, in its parts
pub and_left : (a b : Bool) → a && b ≡ true → a ≡ true
and_left true b e = refl
and_left false b e = e

pub and_right : (a b : Bool) → a && b ≡ true → b ≡ true
and_right true b e = e
and_right false b e = absurd (false≢true e)

pub and_true : (a b : Bool) → a && b ≡ true → (a ≡ true) × (b ≡ true)
and_true a b e = (and_left a b e, and_right a b e)

-- one of which a part is known
pub and_yes : {a : Bool} (b : Bool) → a ≡ true → a && b ≡ b
and_yes b e = ap (λ (x : Bool). x && b) e

pub and_no : {a : Bool} (b : Bool) → a ≡ false → a && b ≡ false
and_no b e = ap (λ (x : Bool). x && b) e

pub and_false : (a b : Bool) → b ≡ false → a && b ≡ false
and_false true b e = e
and_false false b e = refl

pub and_one : (a : Bool) → a ≡ a && true
and_one true = refl
and_one false = refl

pub and_assoc : (a b c : Bool) → a && b && c ≡ a && (b && c)
and_assoc true b c = refl
and_assoc false b c = refl

-- a choice whose test is known
pub cond_yes : {A : Type 0} {b : Bool} (x y : A) → b ≡ true → cond b x y ≡ x
cond_yes x y e = ap (λ (t : Bool). cond t x y) e

pub cond_no : {A : Type 0} {b : Bool} (x y : A) → b ≡ false → cond b x y ≡ y
cond_no x y e = ap (λ (t : Bool). cond t x y) e

-- two tests that hold and fail together are one
pub by_two : (s t : Bool) → (s ≡ true → t ≡ true) → (s ≡ false → t ≡ false) → s ≡ t
by_two true t f g = sym (f refl)
by_two false t f g = sym (g refl)
