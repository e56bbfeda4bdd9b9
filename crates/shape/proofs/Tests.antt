-- Tests that are computed over a list or a range, and carried to each.
use mathlib.Core.Path.{◌≡◌, refl, ap, sym, ◌∙◌}
use mathlib.Core.Bool.{Bool, true, false, ◌&&◌, ◌||◌, false≢true}
use mathlib.Core.List.{List, [], ◌∷◌}
use Prim.Native.Nat.{ℕ, zero, suc, ◌<◌}
use native.Mathlib.Nat.{not-suc-le-zero}
use native.Mathlib.Omega.{arith}
use borrow.Author.Tests.{eqb-true, eq-eqb, ltb-true, ltb-false}
use lib.Dec.{eqb, ltb}
use lib.ListN.{length}
use Rattle.base.proofs.Bools.{and_true, and_yes}
use Rattle.shape.specs.Shapes.{Shapes, same}

abbrev pub passes : (List ℕ → Bool) → Shapes → Bool
passes f [] = true
passes f (p ∷ ps) = f p && passes f ps

abbrev pub down_to : ℕ → (ℕ → Bool) → Bool
down_to zero f = true
down_to (suc n) f = f n && down_to n f

at_last : (n i : ℕ) (t : Bool) → ltb i n ≡ t → i < suc n → (f : ℕ → Bool) → f n ≡ true → (i < n → f i ≡ true) → f i ≡ true
at_last n i true e h f a b = b (ltb-true i n e)
at_last n i false e h f a b = let z : i ≡ n = omega (arith, ltb-false i n e) in rw z a

pub down_at : (n : ℕ) (f : ℕ → Bool) → down_to n f ≡ true → (i : ℕ) → i < n → f i ≡ true
down_at zero f e i h = absurd (not-suc-le-zero h)
down_at (suc n) f e i h =
    let p = and_true (f n) (down_to n f) e in
    at_last n i (ltb i n) refl h f p.0 (λ l. down_at n f p.1 i l)

-- a test that cannot hold fails
pub fails : (b : Bool) → (b ≡ true → ⊥) → b ≡ false
fails true f = absurd (f refl)
fails false f = refl

pub yes_both : {a b : Bool} → a ≡ true → b ≡ true → a && b ≡ true
yes_both {b = b} e f = and_yes b e ∙ f

pub or_left : {a : Bool} (b : Bool) → a ≡ true → a || b ≡ true
or_left b e = rw e

pub or_right : (a : Bool) {b : Bool} → b ≡ true → a || b ≡ true
or_right true e = refl
or_right false e = e

-- ---- two texts that are the same
pub same_is : (x y : List ℕ) → same x y ≡ true → x ≡ y
same_is [] [] e = refl
same_is [] (y ∷ ys) e = absurd (false≢true e)
same_is (x ∷ xs) [] e = absurd (false≢true e)
same_is (x ∷ xs) (y ∷ ys) e = let p = and_true (eqb x y) (same xs ys) e in rw (eqb-true x y p.0, same_is xs ys p.1)

pub same_self : (x : List ℕ) → same x x ≡ true
same_self [] = refl
same_self (x ∷ xs) = yes_both (eq-eqb x x refl) (same_self xs)

pub is_same : (x y : List ℕ) → x ≡ y → same x y ≡ true
is_same x y e = ap (same x) (sym e) ∙ same_self x

pub same_size : (x y : List ℕ) → (length x ≡ length y → ⊥) → false ≡ same x y
same_size x y f = sym (fails (same x y) (λ e. f (ap length (same_is x y e))))
