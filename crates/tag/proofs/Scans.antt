-- The loops' definitions, a turn at a time: a character looked for, two shapes compared, and a form found in a list.
use mathlib.Core.Path.{◌≡◌, refl, sym, ap, subst, ◌∙◌}
use mathlib.Core.Bool.{Bool, true, false, cond, ◌&&◌}
use mathlib.Core.List.{List, [], ◌∷◌, ◌++◌}
use Prim.Native.Nat.{ℕ, zero, suc, ◌+◌, ◌-◌, ◌<◌, ◌≤◌}
use native.Mathlib.Nat.{not-suc-le-zero, le_of_suc-le-suc}
use native.Mathlib.Numerals.{add-one}
use native.Mathlib.Omega.{arith}
use borrow.Author.Tests.{eqb-true, eq-eqb, ne_eqb}
use lib.Dec.{eqb}
use lib.ListN.{length, take, drop, length-drop}
use lib.Seq.{take_all}
use Rattle.base.specs.Outcome.{done}
use Rattle.base.proofs.Ladders.{never, done_is}
use Rattle.octets.specs.Places.{digit_good}
use Rattle.shape.specs.Shapes.{kind_of, shape_of, fits}
use Rattle.std.proofs.Common.{Option}
use Rattle.std.specs.Option.{MatchOption, unwrap_or}
use Rattle.std.specs.List.{AllWithin, HoldsAt, list_all, zip}
use Rattle.std.proofs.lemmas.Iterator.{index_from_first}
use Rattle.shape.proofs.Tests.{same_is, same_size}
use Rattle.shape.proofs.Shapes.{shape_length, zeros, kind_sep}
use Rattle.shape.proofs.Pieces.{Piece, spell, outline, clean, outlined}
use Rattle.tag.specs.Forms.{Form, Forms, find}
use Rattle.tag.specs.Tags.{until}

-- ---- until
-- of a shape
pub until_shape : (c : ℕ) → digit_good c ≡ false → (s : List ℕ) → until c (shape_of s) ≡ until c s
unfolding shape_of
until_shape c n [] = refl
until_shape c n (b ∷ s) = rw (kind_sep b c n, until_shape c n s)

pub until_zeros : (c w : ℕ) → eqb 48 c ≡ false → (s : List ℕ) → until c (zeros w ++ s) ≡ w + until c s
until_zeros c zero n s = omega arith
until_zeros c (suc w) n s = rw n (omega (arith, until_zeros c w n s))

pub until_le : (c : ℕ) (s : List ℕ) → until c s ≤ length s
until_le c [] = omega arith
until_le c (b ∷ s) = go (eqb b c) (until_le c s)
  where
    go : (t : Bool) → until c s ≤ length s → cond t 0 (suc (until c s)) ≤ suc (length s)
    go true r = omega arith
    go false r = omega arith

-- what `position` tells of it
pub until_first : (c : ℕ) (s : List ℕ) (r : Option ℕ) → MatchOption r (AllWithin (λ b. b ≡ c → ⊥) s 0 (length s)) (λ i. (i < length s) × HoldsAt (λ b. b ≡ c) s i × AllWithin (λ b. b ≡ c → ⊥) s 0 i)
    → (unwrap_or r (length s) ≡ until c s) × (unwrap_or r (length s) ≤ length s)
until_first c s r h =
    let e = index_from_first (until c) (λ b. b ≡ c) (λ b. b ≡ c → ⊥) refl (λ b t k. rw (eq-eqb b c k)) (λ b t k. rw (ne_eqb b c k, add-one)) s r h in
    (sym e, omega (arith, e, until_le c s))

-- a text without the character, and what follows
pub until_past : (c : ℕ) (a b : List ℕ) → until c a ≡ length a → until c (a ++ b) ≡ length a + until c b
until_past c [] b e = omega arith
until_past c (x ∷ a) b e = go (eqb x c) e (until_past c a b)
  where
    go : (t : Bool) → cond t 0 (suc (until c a)) ≡ suc (length a) → (until c a ≡ length a → until c (a ++ b) ≡ length a + until c b) → cond t 0 (suc (until c (a ++ b))) ≡ suc (length a) + until c b
    go true e more = absurd (omega (arith, e))
    go false e more = omega (arith, more (omega (arith, e)))

-- where it stands, the text is cut around it
pub until_cut : (c : ℕ) (s : List ℕ) → until c s < length s → s ≡ take (until c s) s ++ (c ∷ drop (until c s + 1) s)
until_cut c [] h = absurd (not-suc-le-zero h)
until_cut c (b ∷ s) h = go (eqb b c) refl h (until_cut c s)
  where
    go : (t : Bool) → eqb b c ≡ t → cond t 0 (suc (until c s)) < suc (length s) → (until c s < length s → s ≡ take (until c s) s ++ (c ∷ drop (until c s + 1) s))
        → b ∷ s ≡ take (cond t 0 (suc (until c s))) (b ∷ s) ++ (c ∷ drop (cond t 0 (suc (until c s)) + 1) (b ∷ s))
    go true f h more = ap (λ (x : ℕ). x ∷ s) (eqb-true b c f)
    go false f h more = let e : suc (until c s) + 1 ≡ suc (until c s + 1) = omega arith in rw e (ap (λ (l : List ℕ). b ∷ l) (more (le_of_suc-le-suc h)))

-- a part that goes to the end
pub rest_is : (s : List ℕ) (p : ℕ) → take (length s - p) (drop p s) ≡ drop p s
rest_is s p = take_all (length s - p) (drop p s) (omega (arith, length-drop p s))

-- ---- a shape and a text, compared pair by pair
pub pairs_same : (x s : List ℕ) → length x ≡ length s → list_all (λ (p : ℕ × ℕ). eqb p.0 (kind_of p.1)) (zip x s) ≡ fits x s
unfolding shape_of
pairs_same [] [] h = refl
pairs_same [] (b ∷ s) h = absurd (omega arith)
pairs_same (a ∷ x) [] h = absurd (omega arith)
pairs_same (a ∷ x) (b ∷ s) h = ap (λ (t : Bool). eqb a (kind_of b) && t) (pairs_same x s (omega arith))

pub pairs_fit : (x s : List ℕ) → length x ≡ length s → (r : Bool) → r ≡ list_all (λ (p : ℕ × ℕ). eqb p.0 (kind_of p.1)) (zip x s) → r ≡ fits x s
pairs_fit x s h r e = e ∙ pairs_same x s h

pub other_size : (x s : List ℕ) → (length x ≡ length s → ⊥) → eqb (length x) (length s) ≡ fits x s
other_size x s f = ne_eqb _ _ f ∙ same_size x (shape_of s) (λ e. f (e ∙ shape_length s))

-- ---- find
module _ (s : List ℕ) (f : Form) where
  pub find_has : (fs : Forms) → find fs s ≡ done f → fits f.shape s ≡ true
  find_has [] e = never 4 f e
  find_has (g ∷ fs) e = go (fits g.shape s) refl e (find_has fs)
    where
      go : (t : Bool) → fits g.shape s ≡ t → cond t (done g) (find fs s) ≡ done f → (find fs s ≡ done f → fits f.shape s ≡ true) → fits f.shape s ≡ true
      go true q k r = rw (done_is g f k) at q
      go false q k r = r k

-- the form that was found is one of the forms
abbrev pub Each : Forms → (Form → Type 0) → Type 0
Each [] P = Unit {0}
Each (f ∷ fs) P = P f × Each fs P

pub find_each : (P : Form → Type 0) (fs : Forms) (s : List ℕ) (f : Form) → find fs s ≡ done f → Each fs (λ g. shape_of s ≡ g.shape → P g) → P f
find_each P [] s f e h = never 4 f e
find_each P (g ∷ fs) s f e (a, b) = go (fits g.shape s) refl e (λ k. find_each P fs s f k b)
  where
    go : (t : Bool) → fits g.shape s ≡ t → cond t (done g) (find fs s) ≡ done f → (find fs s ≡ done f → P f) → P f
    go true q e k = subst P (done_is g f e) (a (sym (same_is g.shape (shape_of s) q)))
    go false q e k = k e

-- texts of one shape have one form
pub find_alike : (fs : Forms) (s t : List ℕ) → shape_of s ≡ shape_of t → find fs s ≡ find fs t
find_alike [] s t e = refl
find_alike (f ∷ fs) s t e = rw (e, find_alike fs s t e)

pub find_spelled : (fs : Forms) (ps : List Piece) → clean ps ≡ true → find fs (spell ps) ≡ find fs (outline ps)
find_spelled fs ps e = find_alike fs (spell ps) (outline ps) (outlined ps e)
