-- The verdict on a text, a character at a time.
use mathlib.Core.Path.{◌≡◌, refl, sym, ap, ◌∙◌}
use mathlib.Core.Bool.{Bool, true, false, cond, ◌&&◌, ◌||◌}
use mathlib.Core.List.{List, [], ◌∷◌}
use Prim.Native.Nat.{ℕ, ◌+◌, ◌<◌, ◌≤◌}
use native.Mathlib.Nat.{add-suc, suc-add, zero-add, add-zero}
use native.Mathlib.Numerals.{add-one}
use borrow.Author.Tests.{eqb-true, eqb-false, eq-eqb, ne_eqb}
use lib.Dec.{eqb}
use lib.ListN.{length, get_or, drop, drop_of_length-le}
use lib.Seq.{drop-cons}
use Rattle.base.proofs.Bools.{by_two}
use Rattle.shape.specs.Shapes.{kind_of, shape_of, Shapes, same, shaped, along}
use Rattle.shape.proofs.Starts.{after, none, along_step}
use Rattle.fit.specs.Fit.{fit_of}
use Rattle.std.specs.Prelude.{Result, Ok, Err}

eqb_turned : (a b : ℕ) → eqb a b ≡ eqb b a
eqb_turned a b =
    by_two (eqb a b) (eqb b a) (λ e. eq-eqb b a (sym (eqb-true a b e))) (λ e. ne_eqb b a (λ f. eqb-false a b e (sym f)))

-- a text has one of the shapes exactly if what follows its first character has one of what follows it there
pub shaped_after : (ps : Shapes) (b : ℕ) (s : List ℕ) → shaped ps (b ∷ s) ≡ shaped (after (kind_of b) ps) s
unfolding shaped shape_of
shaped_after [] b s = refl
shaped_after ([] ∷ ps) b s = shaped_after ps b s
shaped_after ((x ∷ p) ∷ ps) b s =
    ap (λ (t : Bool). (t && same p (shape_of s)) || shaped ps (b ∷ s)) (eqb_turned x (kind_of b))
    ∙ go (eqb (kind_of b) x) (shaped_after ps b s)
  where
    go : (t : Bool) → shaped ps (b ∷ s) ≡ shaped (after (kind_of b) ps) s → (t && same p (shape_of s)) || shaped ps (b ∷ s) ≡ shaped (cond t (p ∷ after (kind_of b) ps) (after (kind_of b) ps)) s
    go true h = ap (λ (t : Bool). same p (shape_of s) || t) h
    go false h = h

-- the verdict on a text of which n characters went before
pub onward : ℕ → Shapes → List ℕ → Result Unit ℕ
onward n ps s = cond (shaped ps s) (Ok tt) (Err (n + along ps s))

pub onward_start : (ps : Shapes) (s : List ℕ) → onward 0 ps s ≡ fit_of ps s
unfolding onward fit_of
onward_start ps s = rw zero-add

module _ (s : List ℕ) (i : ℕ) (ps : Shapes) where
  -- no shape goes on so
  pub stops : i < length s → after (kind_of (get_or s i 0)) ps ≡ [] → Err i ≡ onward i ps (drop i s)
  unfolding onward shaped
  stops h e = rw (drop-cons s i 0, shaped_after, along_step, e, add-zero)

  -- some do
  pub turns : (qs : Shapes) → i < length s → after (kind_of (get_or s i 0)) ps ≡ qs → none qs ≡ false → onward (i + 1) qs (drop (i + 1) s) ≡ onward i ps (drop i s)
  unfolding onward
  turns qs h e z = rw (add-one, drop-cons s i 0, shaped_after, along_step, e, z, add-suc, suc-add)

  -- the text is at its end
  pub ends : length s ≤ i → cond (shaped ps []) (Ok tt) (Err i) ≡ onward i ps (drop i s)
  unfolding onward along
  ends h = rw (drop_of_length-le s h, add-zero)
