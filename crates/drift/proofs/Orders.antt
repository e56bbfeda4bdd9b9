-- The order of fractions: by the parts of their numerators; it does not see a factor of both; it is an order.
use mathlib.Core.Path.{◌≡◌, refl, sym, ◌∙◌}
use mathlib.Core.Bool.{Bool, true, false}
use Prim.Native.Nat.{ℕ, ◌+◌, ◌*◌, ◌<◌, ◌≤◌}
use native.Mathlib.Nat.{add-mul, mul-pos, mul_right_comm, mul-mul-mul_comm, mul-lt-mul_of_pos_right, mul-le-mul_right, lt_of_mul-lt-mul_right}
use native.Mathlib.Omega.{arith}
use lib.Dec.{ltb, lit<}
use lib.IntN.{ℤ, pos, ◌*ℤ◌}
use borrow.Author.Tests.{lt-ltb, le-ltb, ltb-true, ltb-false}
use Rattle.base.specs.Parts.{plus, minus}
use Rattle.base.proofs.Bools.{never_both, by_two}
use Rattle.base.proofs.Signed.{lt_z_is, times_plus, times_minus}
use Rattle.drift.specs.Fraction.{Fraction, below, above}
use Rattle.drift.specs.Rate.{step}
use Rattle.drift.specs.Steps.{in_ticks}

abbrev pub left : Fraction → Fraction → ℕ
left f g = plus f.num * g.den + minus g.num * f.den

abbrev pub right : Fraction → Fraction → ℕ
right f g = plus g.num * f.den + minus f.num * g.den

pub below_is : (f g : Fraction) → below f g ≡ ltb (left f g) (right f g)
unfolding below
below_is f g = lt_z_is (f.num *ℤ pos g.den) (g.num *ℤ pos f.den) ∙ simp (times_plus, times_minus)

-- ---- one test for another, and a factor of both sides
pub same_test : (x y m n : ℕ) → (x < y → m < n) → (y ≤ x → n ≤ m) → ltb x y ≡ ltb m n
same_test x y m n f g = by_two (ltb x y) (ltb m n) (λ h. lt-ltb m n (f (ltb-true x y h))) (λ h. le-ltb m n (g (ltb-false x y h)))

pub times_test : (m n k : ℕ) → 0 < k → ltb (m * k) (n * k) ≡ ltb m n
times_test m n k z = sym (same_test m n (m * k) (n * k) (λ h. mul-lt-mul_of_pos_right h z) (λ h. mul-le-mul_right k h))

side : (p q d e k : ℕ) → p * k * (e * k) + q * k * (d * k) ≡ (p * e + q * d) * (k * k)
side p q d e k = rw (mul-mul-mul_comm p k e k, mul-mul-mul_comm q k d k) (sym (add-mul (p * e) (q * d) (k * k)))

scaled : (x y : ℤ) (d e k : ℕ) → 0 < k → ltb (plus (x *ℤ pos k) * (e * k) + minus (y *ℤ pos k) * (d * k)) (plus (y *ℤ pos k) * (d * k) + minus (x *ℤ pos k) * (e * k)) ≡ ltb (plus x * e + minus y * d) (plus y * d + minus x * e)
scaled x y d e k z =
    rw (times_plus x k, times_minus x k, times_plus y k, times_minus y k, side (plus x) (minus y) d e k, side (plus y) (minus x) e d k)
    (times_test (plus x * e + minus y * d) (plus y * d + minus x * e) (k * k) (mul-pos z z))

pub ticks_below : (x y : ℤ) (d e : ℕ) → below (in_ticks x d) (in_ticks y e) ≡ ltb (plus x * e + minus y * d) (plus y * d + minus x * e)
ticks_below x y d e = below_is (in_ticks x d) (in_ticks y e) ∙ scaled x y d e step (lit< tt)

-- ---- nothing is less than itself; of two, one at most is less; what is less than one is less than all that are not less than that one
below_self : (f : Fraction) → below f f ≡ false
below_self f = below_is f f ∙ le-ltb (left f f) (right f f) (omega arith)

below_one : (f g : Fraction) → below f g ≡ true → below g f ≡ false
below_one f g h = below_is g f ∙ le-ltb (left g f) (right g f) (turn (ltb-true _ _ (sym (below_is f g) ∙ h)))
  where
    turn : left f g < right f g → right g f ≤ left g f
    turn l = omega arith

chain : (a b c : Fraction) → 0 < c.den → left a b < right a b → left b c ≤ right b c → left a c < right a c
chain a b c z h k =
    let ad = a.den in
    let bd = b.den in
    let cd = c.den in
    let h' = simp add-mul at (mul-lt-mul_of_pos_right h z) in
    let k' = simp add-mul at (mul-le-mul_right ad k) in
    lt_of_mul-lt-mul_right bd
    (simp add-mul
    (omega (
      arith,
      h',
      k',
      mul_right_comm (plus a.num) bd cd,
      mul_right_comm (minus b.num) ad cd,
      mul_right_comm (plus b.num) ad cd,
      mul_right_comm (minus a.num) bd cd,
      mul_right_comm (minus c.num) bd ad,
      mul_right_comm (plus c.num) bd ad,
    )))

below_on : (f g h : Fraction) → 0 < h.den → below f g ≡ true → below h g ≡ false → below f h ≡ true
below_on f g h z p q =
    below_is f h ∙ lt-ltb _ _ (chain f g h z (ltb-true _ _ (sym (below_is f g) ∙ p)) (ltb-false (left h g) (right h g) (sym (below_is h g) ∙ q)))

-- the same from the other side
above_on : (f g h : Fraction) → 0 < h.den → below g f ≡ true → below g h ≡ false → below h f ≡ true
above_on f g h z p q = go (below h f) refl
  where
    go : (t : Bool) → below h f ≡ t → t ≡ true
    go true e = refl
    go false e = never_both (below_on g f h z p e) q

pub record Ordered (beats : Fraction → Fraction → Bool) : Type 0 where
  pub self : (f : Fraction) → beats f f ≡ false
  pub one : (f g : Fraction) → beats f g ≡ true → beats g f ≡ false
  pub on : (f g h : Fraction) → 0 < h.den → beats f g ≡ true → beats h g ≡ false → beats f h ≡ true

pub smaller : Ordered below
smaller = record { self = below_self; one = below_one; on = below_on }

pub greater : Ordered above
greater = record { self = below_self; one = λ f g. below_one g f; on = above_on }
