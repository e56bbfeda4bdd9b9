-- The longest start of a text that begins one of the shapes: it does, and no longer one does. And the same walked along, a character at a time.
use mathlib.Core.Path.{◌≡◌, refl, sym, ap, ◌∙◌}
use mathlib.Core.Logic.{◌⊎◌, ⊎_elim}
use mathlib.Core.Bool.{Bool, true, false, cond, not, ◌&&◌, ◌||◌, false≢true}
use mathlib.Core.List.{List, [], ◌∷◌, map}
use Prim.Native.Nat.{ℕ, zero, suc, ◌≤◌, ◌<◌}
use native.Mathlib.Nat.{eq-or-lt_of_le}
use native.Mathlib.Omega.{arith}
use borrow.Author.Tests.{eqb-true, eq-eqb}
use lib.Dec.{eqb}
use lib.ListN.{length, take}
use lib.Seq.{take-length}
use Rattle.base.proofs.Bools.{never_both, and_true}
use Rattle.shape.specs.Quoted.{bytes}
use Rattle.shape.specs.Shapes.{kind_of, shape_of, Shapes, same, fits, shaped, leads, begins, along_to, along}
use Rattle.shape.proofs.Tests.{or_left, or_right, yes_both}

-- ---- by computation
abbrev two : Shapes
two = bytes "0000-00" ∷ bytes "-00" ∷ []

-- a digit for another; a letter for a digit; a digit for a dash; a text too short, and one too long; one that begins nothing
starts : map (along two) (bytes "2016-99" ∷ bytes "2016-9x" ∷ bytes "20167" ∷ bytes "-1" ∷ bytes "-12-31" ∷ bytes "T12" ∷ bytes "" ∷ []) ≡ 7 ∷ 6 ∷ 4 ∷ 2 ∷ 3 ∷ 0 ∷ 0 ∷ []
unfolding along begins shape_of
starts = refl

-- ---- it is a start that begins one of the shapes
to_le : (ps : Shapes) (s : List ℕ) (n : ℕ) → along_to ps s n ≤ n
to_le ps s zero = omega arith
to_le ps s (suc n) = go (begins ps (take (suc n) s)) (to_le ps s n)
  where
    go : (t : Bool) → along_to ps s n ≤ n → cond t (suc n) (along_to ps s n) ≤ suc n
    go true h = omega arith
    go false h = omega arith

pub along_le : (ps : Shapes) (s : List ℕ) → along ps s ≤ length s
unfolding along
along_le ps s = to_le ps s (length s)

to_begins : (ps : Shapes) (s : List ℕ) (n : ℕ) → begins ps [] ≡ true → begins ps (take (along_to ps s n) s) ≡ true
to_begins ps s zero e = e
to_begins ps s (suc n) e = go (begins ps (take (suc n) s)) refl (to_begins ps s n e)
  where
    go : (t : Bool) → begins ps (take (suc n) s) ≡ t → begins ps (take (along_to ps s n) s) ≡ true → begins ps (take (cond t (suc n) (along_to ps s n)) s) ≡ true
    go true f h = f
    go false f h = h

pub along_begins : (ps : Shapes) (s : List ℕ) → begins ps [] ≡ true → begins ps (take (along ps s) s) ≡ true
unfolding along
along_begins ps s e = to_begins ps s (length s) e

-- ---- and no longer one does
to_most : (ps : Shapes) (s : List ℕ) (n k : ℕ) → k ≤ n → begins ps (take k s) ≡ true → k ≤ along_to ps s n
to_most ps s zero k l e = l
to_most ps s (suc n) k l e = go (begins ps (take (suc n) s)) refl (λ h. to_most ps s n k h e)
  where
    last : begins ps (take (suc n) s) ≡ false → k ≤ n
    last f =
        ⊎_elim (λ (i : k ≡ suc n). never_both (ap (λ (j : ℕ). begins ps (take j s)) (sym i) ∙ e) f)
        (λ (i : k < suc n). let z : k ≤ n = omega arith in z) (eq-or-lt_of_le l)

    go : (t : Bool) → begins ps (take (suc n) s) ≡ t → (k ≤ n → k ≤ along_to ps s n) → k ≤ cond t (suc n) (along_to ps s n)
    go true f more = l
    go false f more = more (last f)

pub along_most : (ps : Shapes) (s : List ℕ) (k : ℕ) → k ≤ length s → begins ps (take k s) ≡ true → k ≤ along ps s
unfolding along
along_most ps s k l e = to_most ps s (length s) k l e

-- ---- a text that has one of the shapes is such a start itself
same_leads : (x y : List ℕ) → same x y ≡ true → leads y x ≡ true
same_leads [] [] e = refl
same_leads [] (b ∷ y) e = e
same_leads (a ∷ x) [] e = absurd (false≢true e)
same_leads (a ∷ x) (b ∷ y) e =
    let (p, q) = and_true (eqb a b) (same x y) e in
    yes_both (eq-eqb b a (sym (eqb-true a b p))) (same_leads x y q)

shaped_begins : (ps : Shapes) (s : List ℕ) → shaped ps s ≡ true → begins ps s ≡ true
unfolding shaped begins
shaped_begins [] s e = e
shaped_begins (p ∷ ps) s e = go (fits p s) refl e (shaped_begins ps s)
  where
    go : (t : Bool) → fits p s ≡ t → t || shaped ps s ≡ true → (shaped ps s ≡ true → begins ps s ≡ true) → leads (shape_of s) p || begins ps s ≡ true
    go true f e k = or_left (begins ps s) (same_leads p (shape_of s) f)
    go false f e k = or_right (leads (shape_of s) p) (k e)

pub along_whole : (ps : Shapes) (s : List ℕ) → shaped ps s ≡ true → along ps s ≡ length s
along_whole ps s e =
    let h : length s ≤ along ps s = along_most ps s (length s) (omega arith) (ap (begins ps) (take-length s) ∙ shaped_begins ps s e) in
    omega (arith, along_le ps s)

-- ---- walked along
-- the shapes that begin with c, without it
abbrev pub after : ℕ → Shapes → Shapes
after c [] = []
after c ([] ∷ ps) = after c ps
after c ((x ∷ p) ∷ ps) = cond (eqb c x) (p ∷ after c ps) (after c ps)

abbrev pub none : Shapes → Bool
none [] = true
none (p ∷ ps) = false

begins_after : (ps : Shapes) (b : ℕ) (s : List ℕ) → begins ps (b ∷ s) ≡ begins (after (kind_of b) ps) s
unfolding begins shape_of
begins_after [] b s = refl
begins_after ([] ∷ ps) b s = begins_after ps b s
begins_after ((x ∷ p) ∷ ps) b s = go (eqb (kind_of b) x) (begins_after ps b s)
  where
    go : (t : Bool) → begins ps (b ∷ s) ≡ begins (after (kind_of b) ps) s → (t && leads (shape_of s) p) || begins ps (b ∷ s) ≡ begins (cond t (p ∷ after (kind_of b) ps) (after (kind_of b) ps)) s
    go true h = ap (λ (t : Bool). leads (shape_of s) p || t) h
    go false h = h

begins_some : (ps : Shapes) → begins ps [] ≡ not (none ps)
unfolding begins shape_of
begins_some [] = refl
begins_some (p ∷ ps) = refl

to_step : (ps : Shapes) (b : ℕ) (s : List ℕ) (n : ℕ) → along_to ps (b ∷ s) (suc n) ≡ cond (none (after (kind_of b) ps)) 0 (suc (along_to (after (kind_of b) ps) s n))
unfolding begins
to_step ps b s zero = rw (begins_after ps b [], begins_some (after (kind_of b) ps)) (turned (none (after (kind_of b) ps)))
  where
    turned : (t : Bool) → ◌≡◌ {A = ℕ} (cond (not t) 1 0) (cond t 0 1)
    turned true = refl
    turned false = refl
to_step ps b s (suc n) = rw (begins_after ps b (take (suc n) s), to_step ps b s n) (go (after (kind_of b) ps))
  where
    go : (qs : Shapes) → cond (begins qs (take (suc n) s)) (suc (suc n)) (cond (none qs) 0 (suc (along_to qs s n))) ≡ cond (none qs) 0 (suc (cond (begins qs (take (suc n) s)) (suc n) (along_to qs s n)))
    go [] = refl
    go (q ∷ qs) = by (begins (q ∷ qs) (take (suc n) s))
      where
        by : (t : Bool) → cond t (suc (suc n)) (suc (along_to (q ∷ qs) s n)) ≡ suc (cond t (suc n) (along_to (q ∷ qs) s n))
        by true = refl
        by false = refl

pub along_step : (ps : Shapes) (b : ℕ) (s : List ℕ) → along ps (b ∷ s) ≡ cond (none (after (kind_of b) ps)) 0 (suc (along (after (kind_of b) ps) s))
unfolding along
along_step ps b s = to_step ps b s (length s)
