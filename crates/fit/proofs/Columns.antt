-- The columns of characters. Two characters of one column have the same shapes behind them, as far as shapes are written in digits and - T : . Z.
use mathlib.Core.Path.{◌≡◌, refl, sym, ap, ◌∙◌}
use mathlib.Core.Logic.{◌⊎◌, inl, inr}
use mathlib.Core.Bool.{Bool, true, false, cond}
use mathlib.Core.List.{[], ◌∷◌}
use Prim.Native.Nat.{ℕ, ◌<◌}
use native.Mathlib.Omega.{arith}
use borrow.Author.Tests.{eqb-true, ne_eqb, ltb-true}
use lib.Dec.{eqb}
use Rattle.base.proofs.Bools.{and_true, cond_yes, cond_no}
use Rattle.octets.specs.Places.{digit_good}
use Rattle.shape.specs.Shapes.{kind_of, Shapes}
use Rattle.shape.proofs.Shapes.{kind_digit, kind_other}
use Rattle.shape.proofs.Starts.{after}
use Rattle.fit.specs.Inner.{column_of, letter, plain, plains}

digit : (b : ℕ) → digit_good b ≡ true → column_of b ≡ 0
digit b e = cond_yes _ _ e

-- what stands for a character in a shape is its column's, or it is of the last
abbrev Stands : ℕ → ℕ → Type 0
Stands b k = (kind_of b ≡ letter k) ⊎ (k ≡ 6)

stands : (b : ℕ) → Stands b (column_of b)
stands b =
    first (digit_good b) refl
    (next (eqb b 45) 45 1 refl refl refl
    (next (eqb b 84) 84 2 refl refl refl
    (next (eqb b 58) 58 3 refl refl refl
    (next (eqb b 46) 46 4 refl refl refl
    (next (eqb b 90) 90 5 refl refl refl (inr refl))))))
  where
    first : {r : ℕ} (t : Bool) → digit_good b ≡ t → Stands b r → Stands b (cond t 0 r)
    first true e h = inl (kind_digit b e)
    first false e h = h

    next : {r : ℕ} (t : Bool) (x k : ℕ) → eqb b x ≡ t → kind_of x ≡ x → letter k ≡ x → Stands b r → Stands b (cond t k r)
    next true x k e f g h = inl (ap kind_of (eqb-true b x e) ∙ f ∙ sym g)
    next false x k e f g h = h

pub column_low : (b : ℕ) → column_of b < 7
column_low b = go (digit_good b) (eqb b 45) (eqb b 84) (eqb b 58) (eqb b 46) (eqb b 90)
  where
    go : (d m t c p z : Bool) → cond d 0 (cond m 1 (cond t 2 (cond c 3 (cond p 4 (cond z 5 6))))) < 7
    go true m t c p z = omega arith
    go false true t c p z = omega arith
    go false false true c p z = omega arith
    go false false false true p z = omega arith
    go false false false false true z = omega arith
    go false false false false false true = omega arith
    go false false false false false false = omega arith

column_kind : (b : ℕ) → column_of (kind_of b) ≡ column_of b
column_kind b = go (digit_good b) refl
  where
    go : (t : Bool) → digit_good b ≡ t → column_of (kind_of b) ≡ column_of b
    go true e = ap column_of (kind_digit b e) ∙ sym (digit b e)
    go false e = ap column_of (kind_other b e)

-- ---- shapes that go on with a digit or one of - T : . Z, if they go on: no other character does
after_other : (c : ℕ) (ps : Shapes) → column_of c ≡ 6 → plains ps ≡ true → after c ps ≡ []
after_other c [] e h = refl
after_other c ([] ∷ ps) e h = after_other c ps e h
after_other c ((x ∷ p) ∷ ps) e h =
    let (a, b) = and_true (plain (x ∷ p)) (plains ps) h in
    cond_no _ _ (ne_eqb c x (λ f. apart (column_of x) (ltb-true _ 6 a) (ap column_of (sym f) ∙ e))) ∙ after_other c ps e b
  where
    apart : (k : ℕ) → k < 6 → k ≡ 6 → ⊥
    apart k l f = omega arith

pub after_column : (b : ℕ) (ps : Shapes) → plains ps ≡ true → after (kind_of b) ps ≡ after (letter (column_of b)) ps
after_column b ps h = go (column_of b) refl (stands b)
  where
    go : (k : ℕ) → column_of b ≡ k → Stands b k → after (kind_of b) ps ≡ after (letter k) ps
    go k e (inl f) = ap (λ (c : ℕ). after c ps) f
    go k e (inr f) =
        after_other (kind_of b) ps (column_kind b ∙ e ∙ f) h
        ∙ sym (after_other (letter k) ps (ap (λ (j : ℕ). column_of (letter j)) f) h)
