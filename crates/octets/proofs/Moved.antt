-- A run of elements is read from these alone, wherever they stand.
use mathlib.Core.Path.{◌≡◌, sym, ap, ◌∙◌}
use mathlib.Core.Bool.{Bool}
use mathlib.Core.List.{List}
use Prim.Native.Nat.{ℕ, ◌+◌, ◌-◌, ◌≤◌}
use native.Mathlib.Omega.{arith}
use borrow.Author.Tests.{le-leb}
use lib.ListN.{length, take, drop, length-drop, take-append-drop}
use lib.Seq.{take-take, take-append-le, drop-append-le, drop-drop, length-take-le}
use Rattle.octets.specs.Places.{number, all_good}
use Rattle.octets.specs.Counts.{count_of}
use Rattle.octets.proofs.Places.{number_take, good_take}

-- the w elements from `at` on in s are those from `to` on in u
pub record Same (s u : List ℕ) (at to w : ℕ) : Type 0 where
  pub here : at + w ≤ length s
  pub there : to + w ≤ length u
  pub alike : take w (drop at s) ≡ take w (drop to u)

-- a part of a run
part_of : (x : List ℕ) (a k w : ℕ) → a + k ≤ w → w ≤ length x → take k (drop a x) ≡ take k (drop a (take w x))
part_of x a k w h l =
    let t : length (take w x) ≡ w = length-take-le w x l in
    let d : length (drop a (take w x)) ≡ w - a = length-drop a (take w x) ∙ ap (λ (n : ℕ). n - a) t in
    ap (λ (y : List ℕ). take k (drop a y)) (sym (take-append-drop w x))
    ∙ ap (take k) (drop-append-le a (take w x) (drop w x) (omega arith))
    ∙ take-append-le k (drop a (take w x)) (drop w x) (omega arith)

module _ {s u : List ℕ} {at to w : ℕ} (m : Same s u at to w) where
  pub part_same : (a k : ℕ) → a + k ≤ w → Same s u (at + a) (to + a) k
  part_same a k h =
      let x : w ≤ length (drop at s) = simp length-drop (omega (arith, m.here)) in
      let y : w ≤ length (drop to u) = simp length-drop (omega (arith, m.there)) in
      record {
        here = omega (arith, m.here);
        there = omega (arith, m.there);
        alike =
            ap (take k) (sym (drop-drop a at s)) ∙ part_of (drop at s) a k w h x ∙ ap (λ (l : List ℕ). take k (drop a l)) m.alike ∙ sym (part_of (drop to u) a k w h y)
            ∙ ap (take k) (drop-drop a to u);
      }

  pub first_same : (k : ℕ) → k ≤ w → Same s u at to k
  first_same k h =
      record { here = omega (arith, m.here); there = omega (arith, m.there); alike = sym (take-take k w (drop at s) h) ∙ ap (take k) m.alike ∙ take-take k w (drop to u) h }

  pub count_moved : (b : ℕ) (v : ℕ → ℕ) (ok : ℕ → Bool) (widest : ℕ) → count_of b v ok widest s at w ≡ count_of b v ok widest u to w
  unfolding count_of
  count_moved b v ok widest =
      rw (le-leb (at + w) (length s) m.here, le-leb (to + w) (length u) m.there, good, value)
    where
      in_s : w ≤ length (drop at s)
      in_s = simp length-drop (omega (arith, m.here))

      in_u : w ≤ length (drop to u)
      in_u = simp length-drop (omega (arith, m.there))

      good : all_good ok (drop at s) w ≡ all_good ok (drop to u) w
      good = sym (good_take ok (drop at s) w in_s) ∙ ap (λ (y : List ℕ). all_good ok y w) m.alike ∙ good_take ok (drop to u) w in_u

      value : number b v (drop at s) w ≡ number b v (drop to u) w
      value =
          sym (number_take b v (drop at s) w in_s) ∙ ap (λ (y : List ℕ). number b v y w) m.alike ∙ number_take b v (drop to u) w in_u
