-- The digits of a fraction, each a subfield of its own: what is left of them, and that no tick is lost with those that stood at 0.
use mathlib.Core.Path.{◌≡◌, refl, sym, ap, ◌∙◌}
use mathlib.Core.Bool.{true, ◌&&◌, ◌||◌}
use mathlib.Core.List.{List, [], ◌∷◌}
use Prim.Native.Nat.{ℕ, zero, suc, ◌+◌, ◌-◌, ◌*◌, ◌/◌, ◌^◌, ◌≤◌, ◌<◌}
use native.Mathlib.Nat.{mul_assoc, not-suc-le-zero}
use native.Mathlib.Omega.{arith}
use lib.Dec.{eqb, ltb}
use lib.ListN.{length, get_or, take, drop}
use borrow.Author.Tests.{eqb-true, le-ltb}
use Rattle.base.proofs.Bools.{and_true}
use Rattle.scale.specs.Time.{per_second}
use Rattle.octets.specs.Places.{digit_value, digits, decimal_of}
use Rattle.octets.proofs.Places.{digit_rule, number_places, number_split}
use Rattle.shape.specs.Quoted.{bytes}
use Rattle.moment.specs.Decimal.{ticks_of}
use Rattle.shape.proofs.Tests.{down_to, down_at}
use Rattle.tag.specs.Shortening.{digits_by, cut, low_from}

-- ---- what is left
pub digits_count : (sep ds : List ℕ) → length (digits_by sep ds) ≡ length ds
digits_count sep [] = refl
digits_count sep (d ∷ ds) = ap suc (digits_count [] ds)

pub later_digits : (j : ℕ) (ds : List ℕ) → cut 0 j (digits_by [] ds) ≡ take j ds
later_digits zero ds = refl
later_digits (suc j) [] = refl
later_digits (suc j) (d ∷ ds) = ap (λ (l : List ℕ). d ∷ l) (later_digits j ds)

pub first_digits : (j : ℕ) (ds : List ℕ) → suc j ≤ length ds → cut 0 (suc j) (digits_by (bytes ".") ds) ≡ 46 ∷ take (suc j) ds
first_digits j [] h = absurd (not-suc-le-zero h)
first_digits j (d ∷ ds) h = ap (λ (l : List ℕ). 46 ∷ (d ∷ l)) (later_digits j ds)

-- ---- digits that stood at 0 are worth nothing
low_at : (j : ℕ) (sep ds : List ℕ) → low_from j (digits_by sep ds) ≡ true → (i : ℕ) → digit_value (get_or (drop j ds) i 0) ≡ 0
low_at zero sep [] e i = refl
low_at zero sep (d ∷ ds) e zero =
    let (a, b) = and_true (eqb d 48 && true) (low_from 0 (digits_by [] ds)) e in
    let h : d ≡ 48 = eqb-true d 48 (and_true (eqb d 48) true a).0 in
    omega arith
low_at zero sep (d ∷ ds) e (suc i) = low_at zero [] ds (and_true (eqb d 48 && true) (low_from 0 (digits_by [] ds)) e).1 i
low_at (suc j) sep [] e i = refl
low_at (suc j) sep (d ∷ ds) e i = low_at j [] ds e i

worth_none : (s : List ℕ) → ((i : ℕ) → digit_value (get_or s i 0) ≡ 0) → (w : ℕ) → decimal_of s w ≡ 0
worth_none s h zero = refl
worth_none s h (suc w) = let a = worth_none s h w in let b = h w in omega arith

-- ---- ticks
finer : down_to 13 (λ j. down_to 13 (λ k. ltb 12 (j + k) || eqb (per_second / 10 ^ j) (10 ^ k * (per_second / 10 ^ (j + k))))) ≡ true
finer = refl

unit_is : (j k : ℕ) → j + k ≤ 12 → per_second / 10 ^ j ≡ 10 ^ k * (per_second / 10 ^ (j + k))
unit_is j k h =
    let a = down_at 13 (λ j. down_to 13 (λ k. ltb 12 (j + k) || eqb (per_second / 10 ^ j) (10 ^ k * (per_second / 10 ^ (j + k))))) finer j (omega arith) in
    let b = down_at 13 (λ k. ltb 12 (j + k) || eqb (per_second / 10 ^ j) (10 ^ k * (per_second / 10 ^ (j + k)))) a k (omega arith) in
    eqb-true _ _ (rw (le-ltb 12 (j + k) h) at b)

-- the first j of d digits of a fraction, the others at 0
pub ticks_kept : (d j f : ℕ) → d ≤ 12 → j ≤ d → f < 10 ^ d → low_from j (digits_by (bytes ".") (digits d f)) ≡ true → ticks_of j (decimal_of (digits d f) j) ≡ ticks_of d f
ticks_kept d j f h l lt low =
    let k = d - j in
    let s = digits d f in
    let i : j + k ≡ d = omega arith in
    let z : decimal_of (drop j s) k ≡ 0 = worth_none (drop j s) (low_at j (bytes ".") s low) k in
    let n : decimal_of s (j + k) ≡ decimal_of s j * 10 ^ k + decimal_of (drop j s) k = number_split 10 digit_value s j k in
    let w : decimal_of s (j + k) ≡ f = rw i (number_places digit_rule d f lt) in
    let e : f ≡ decimal_of s j * 10 ^ k = omega (arith, n, w, z) in
    let u : per_second / 10 ^ j ≡ 10 ^ k * (per_second / 10 ^ d) = rw i at (unit_is j k (omega arith)) in
    ap (λ (x : ℕ). decimal_of s j * x) u ∙ sym (mul_assoc (decimal_of s j) (10 ^ k) (per_second / 10 ^ d)) ∙ sym (ap (λ (x : ℕ). x * (per_second / 10 ^ d)) e)
