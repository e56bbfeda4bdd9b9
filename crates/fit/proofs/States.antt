-- A right table: what its rows say, carried to each state and character. And a walk by it.
use mathlib.Core.Path.{◌≡◌, refl, sym, ap, ap₂, ◌∙◌}
use mathlib.Core.Bool.{Bool, true, false, not, ◌&&◌, ◌||◌, false≢true}
use mathlib.Core.List.{List, [], ◌∷◌}
use Prim.Native.Nat.{ℕ, ◌+◌, ◌<◌}
use native.Mathlib.Omega.{arith}
use borrow.Author.Tests.{eqb-true, ltb-true, not-true}
use lib.Dec.{eqb, ltb}
use lib.ListN.{length, get_or, drop}
use Rattle.base.proofs.Bools.{and_true}
use Rattle.shape.specs.Shapes.{kind_of, Shapes, same, shaped}
use Rattle.shape.proofs.Tests.{down_to, down_at, same_is}
use Rattle.shape.proofs.Starts.{after, none}
use Rattle.fit.specs.Fit.{fit_of}
use Rattle.fit.specs.declared.State.{State}
use Rattle.fit.specs.Inner.{column_of, plains, is_start, permitted, live, next_of, sames, agree, leads, end_right, turn_right, right}
use Rattle.fit.proofs.Columns.{after_column, column_low}
use Rattle.fit.proofs.Turns.{onward, onward_start, stops, turns, ends}
use Rattle.std.specs.Prelude.{Option, Some, None, Ok, Err}

-- ---- a test that holds, in what it says
sames_is : (x y : Shapes) → sames x y ≡ true → x ≡ y
sames_is [] [] e = refl
sames_is [] (y ∷ ys) e = absurd (false≢true e)
sames_is (x ∷ xs) [] e = absurd (false≢true e)
sames_is (x ∷ xs) (y ∷ ys) e =
    let (a, b) = and_true (same x y) (sames xs ys) e in
    ap₂ (λ (p : List ℕ) (ps : Shapes). p ∷ ps) (same_is x y a) (sames_is xs ys b)

agree_is : (a b : Bool) → agree a b ≡ true → a ≡ b
agree_is true b e = sym e
agree_is false b e = sym (not-true b e)

none_is : (ps : Shapes) → none ps ≡ true → ps ≡ []
none_is [] e = refl
none_is (p ∷ ps) e = absurd (false≢true e)

leads_on : (ps : Shapes) (r : ℕ) → leads ps (Some r) ≡ true → (r < 71) × (ps ≡ live r) × (none ps ≡ false)
leads_on ps r e =
    let (a, b) = and_true (ltb r 71) (not (none ps) && sames ps (live r)) e in
    let (c, d) = and_true (not (none ps)) (sames ps (live r)) b in
    (ltb-true r 71 a, sames_is ps (live r) d, not-true (none ps) c)

-- ---- each state
module _ (q : ℕ) (t : State) (f : right q t ≡ true) where
  row : (plains (live q) ≡ true) × (end_right t (live q) ≡ true) × (down_to 7 (turn_right t (live q)) ≡ true)
  unfolding right
  row =
      let (a, b) = and_true (plains (live q)) (end_right t (live q) && down_to 7 (turn_right t (live q))) f in
      let (c, d) = and_true (end_right t (live q)) (down_to 7 (turn_right t (live q))) b in
      (a, c, d)

  may_end : shaped (live q) [] ≡ t.6
  may_end = agree_is (shaped (live q) []) t.6 row.1

  leads_at : (b : ℕ) → leads (after (kind_of b) (live q)) (next_of t b) ≡ true
  leads_at b = rw (after_column b (live q) row.0) (down_at 7 (turn_right t (live q)) row.2 (column_of b) (column_low b))

-- ---- a walk that is in state q after i characters
pub record Walk (s : List ℕ) (ps : Shapes) (q i : ℕ) : Type 0 where
  pub state : q < 71
  pub told : onward i (live q) (drop i s) ≡ fit_of ps s

pub begins : {s : List ℕ} {q : ℕ} → is_start q ≡ true → Walk s (permitted q) q 0
unfolding live
begins {s} {q} h = by (eqb q 0) refl h
  where
    by : (c : Bool) → eqb q 0 ≡ c → c || eqb q 34 ≡ true → Walk s (permitted q) q 0
    by true e h =
        let z = eqb-true q 0 e in
        record { state = omega arith; told = rw z (onward_start (permitted 0) s) }
    by false e h =
        let z = eqb-true q 34 h in
        record { state = omega arith; told = rw z (onward_start (permitted 34) s) }

module _ {s : List ℕ} {ps : Shapes} {q i : ℕ} (w : Walk s ps q i) (t : State) (f : right q t ≡ true) where
  module _ (l : i < length s) (r : Option ℕ) (e : r ≡ next_of t (get_or s i 0)) where
    abbrev qs : Shapes
    qs = after (kind_of (get_or s i 0)) (live q)

    leads_here : leads qs r ≡ true
    leads_here = rw e (leads_at q t f (get_or s i 0))

    pub stops_at : r ≡ None → Err i ≡ fit_of ps s
    stops_at z = stops s i (live q) l (none_is qs (rw z at leads_here)) ∙ w.told

    pub goes_on : (to : ℕ) → r ≡ Some to → Walk s ps to (i + 1)
    goes_on to z =
        let (a, b, c) = leads_on qs to (rw z at leads_here) in
        record { state = a; told = turns s i (live q) (live to) l b (rw b at c) ∙ w.told }

  -- it is at the end of the text
  module _ (l : i ≡ length s) where
    pub ends_right : t.6 ≡ true → Ok (tt {0}) ≡ fit_of ps s
    ends_right z = rw (may_end q t f, z) at (ends s i (live q) (omega arith)) ∙ w.told

    pub ends_wrong : t.6 ≡ false → Err (length s) ≡ fit_of ps s
    ends_wrong z = ap Err (sym l) ∙ rw (may_end q t f, z) at (ends s i (live q) (omega arith)) ∙ w.told
