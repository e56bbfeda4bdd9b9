-- The turns of the loops that read and store, over any base and kind of element.
use mathlib.Core.Path.{◌≡◌, refl, ◌∙◌}
use mathlib.Core.Bool.{Bool, true, false, cond}
use mathlib.Core.List.{List, append_assoc}
use Prim.Native.Nat.{ℕ, zero, suc, ◌+◌, ◌*◌, ◌-◌, ◌/◌, ◌%◌, ◌^◌, ◌<◌, ◌≤◌}
use native.Mathlib.Nat.{add-mul, pow-suc, pow-le-pow_right, mul-le-mul_right, le_trans}
use native.Mathlib.Numerals.{add-one}
use native.Mathlib.Omega.{arith}
use borrow.Author.Tests.{leb-false}
use lib.Dec.{leb}
use lib.ListN.{length, get_or, set, length-set}
use lib.Seq.{get_or-drop, take-set-le, drop-cons, drop-set-lt, get_or-set_same}
use Rattle.std.specs.Prelude.{Result, Ok, Err}
use Rattle.base.specs.declared.Refusal.{Refusal}
use Rattle.base.specs.declared.Refusal.TheVariants.{Field}
use Rattle.base.proofs.Bools.{and_yes}
use Rattle.octets.specs.Places.{places}
use Rattle.octets.specs.Stores.{pasted, Stored}
use Rattle.octets.proofs.Places.{Rule, length_places}
use Rattle.octets.proofs.Counts.{Read, read_lt}
use Rattle.octets.proofs.Pastes.{paste_none, stores, stays}

-- ---- reading, from the front
module _ {b : ℕ} {v : ℕ → ℕ} {ok : ℕ → Bool} {widest : ℕ} {s : List ℕ} {at w : ℕ} where
  pub turn : {n i : ℕ} → Read b v ok widest s at w n i → i < w → ok (get_or s (at + i) 0) ≡ true → Read b v ok widest s at w (n * b + v (get_or s (at + i) 0)) (i + 1)
  turn r h g = record {
    narrow = r.narrow;
    within = r.within;
    part = omega arith;
    is = rw (add-one, get_or-drop, r.is);
    good = rw (add-one, get_or-drop) (and_yes _ r.good ∙ g);
  }

  -- one element more still fits
  pub more : {p : ℕ → ℕ} {n i : ℕ} → Rule b v p ok → Read b v ok widest s at w n i → i < w → (n + 1) * b ≤ b ^ widest
  more {n = n} {i = i} rule r h =
      let k : n + 1 ≤ b ^ i = omega (arith, read_lt r rule) in
      let l : suc i ≤ widest = omega arith in
      le_trans (mul-le-mul_right b k) (rw pow-suc at (pow-le-pow_right rule.some l))

  -- and where the widest number is below a bound, each number on the way is
  pub below : {p : ℕ → ℕ} {n i x m : ℕ} → Rule b v p ok → b ^ widest ≤ m → Read b v ok widest s at w n i → i < w → ok x ≡ true → n * b + v x < m
  below {n = n} {x = x} rule f r h g = omega (arith, more rule r h, rule.below x g, add-mul n 1 b)

-- what an element's answer tells
pub good_told : (g : Bool) (y d : ℕ) (r : Result ℕ Refusal) → r ≡ cond g (Ok y) (Err Field) → r ≡ Ok d → (g ≡ true) × (d ≡ y)
good_told true y d r e f = (refl, cc)
good_told false y d r e f = absurd (cc)

pub bad_told : (g : Bool) (y : ℕ) (why : Refusal) (r : Result ℕ Refusal) → r ≡ cond g (Ok y) (Err Field) → r ≡ Err why → (g ≡ false) × (why ≡ Field)
bad_told true y why r e f = absurd (cc)
bad_told false y why r e f = (refl, cc)

-- ---- storing, from the back
-- to put in the k elements of m is what is left to do
pub record Write (b : ℕ) (p : ℕ → ℕ) (old : List ℕ) (at w n : ℕ) (new : List ℕ) (m k : ℕ) : Type 0 where
  pub part : k ≤ w
  pub within : at + w ≤ length new
  pub size : length new ≡ length old
  pub left : pasted new at (places b p k m) ≡ pasted old at (places b p w n)

module _ (b : ℕ) (p : ℕ → ℕ) (at : ℕ) where
  pub stay : (old : List ℕ) (w n : ℕ) → leb (at + w) (length old) ≡ false → Stored (places b p w n) at old old false
  stay old w n e = stays (places b p w n) old at (rw length_places (leb-false (at + w) (length old) e))

  all_put : (new : List ℕ) (m k : ℕ) → k ≤ 0 → new ≡ pasted new at (places b p k m)
  all_put new m zero h = paste_none new at
  all_put new m (suc k) h = absurd (let z : ⊥ = omega arith in z)

  put_last : (d : List ℕ) (m k : ℕ) → 0 < k → at + k ≤ length d → pasted (set d (at + (k - 1)) (p (m % b))) at (places b p (k - 1) (m / b)) ≡ pasted d at (places b p k m)
  unfolding pasted
  put_last d m zero h l = absurd (let z : ⊥ = omega arith in z)
  put_last d m (suc k) h l =
      let x = p (m % b) in
      let e : suc k - 1 ≡ k = omega arith in
      let q : at + k < length d = omega arith in
      let q' : at + k < length (set d (at + k) x) = omega (arith, length-set d (at + k) x) in
      let j : at + length (places b p (suc k) m) ≡ suc (at + k) = omega (arith, length_places b p (suc k) m) in
      rw (e, j, length_places b p k (m / b), take-set-le at d (at + k) x (omega arith), drop-cons (set d (at + k) x) (at + k) 0 q', get_or-set_same d (at + k) x 0 q, drop-set-lt (suc (at + k)) d (at + k) x (omega arith)) (simp append_assoc)

module _ {b : ℕ} {p : ℕ → ℕ} {old : List ℕ} {at w n : ℕ} where
  -- the place i - 1 is stored next
  pub step : {new : List ℕ} {m i : ℕ} → Write b p old at w n new m (i - at) → at < i → Write b p old at w n (set new (i - 1) (p (m % b))) (m / b) (i - 1 - at)
  step {new} {m} {i} r h =
      let z = length-set new (i - 1) (p (m % b)) in
      let e : at + (i - at - 1) ≡ i - 1 = omega arith in
      let f : i - at - 1 ≡ i - 1 - at = omega arith in
      let l = put_last b p at new m (i - at) (omega arith) (omega arith) in
      record {
        part = omega arith;
        within = omega arith;
        size = z ∙ r.size;
        left = rw (e, f) at l ∙ r.left;
      }

  pub finish : {new : List ℕ} {m k : ℕ} → Write b p old at w n new m k → k ≤ 0 → Stored (places b p w n) at old new true
  finish {new} {m} {k} r h = stores (rw length_places (let z : at + w ≤ length old = omega arith in z)) (all_put b p at new m k h ∙ r.left)
