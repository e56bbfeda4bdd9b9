-- Quotients by their whole parts, taken downward, and what is left: how they are made, and their order.
use mathlib.Core.Path.{◌≡◌, sym, ap, ◌∙◌}
use Rattle.std.specs.Prelude.{◌≢◌}
use Prim.Native.Nat.{ℕ, ◌+◌, ◌*◌, ◌/◌, ◌%◌, ◌<◌}
use native.Mathlib.Nat.{add-mul, one-mul, suc-mul, mul_assoc, mul_comm, mul-lt-mul_of_pos_right, mul-le-mul_right, div-add-mod'}
use native.Mathlib.Omega.{arith}
use lib.Dec.{ltb}
use Rattle.base.specs.Parts.{plus, minus, lowered_by}
use Rattle.base.proofs.Signed.{lower_is}
use Rattle.drift.specs.Fraction.{Fraction, below}
use Rattle.drift.specs.Steps.{most}
use Rattle.drift.specs.Inner.{quotient_as}
use Rattle.drift.specs.declared.Mixed.{Mixed}
use Rattle.drift.proofs.Orders.{same_test, times_test, ticks_below}

-- ---- made of a quotient and a remainder: below 0, where onboard is -(n + 1), and from 0 on
pub exact_below : (o g n w r : ℕ) → n + 1 + o ≡ most → w + n / g + 1 ≡ most → r + n % g + 1 ≡ g → o + most * g ≡ w * g + r + most
exact_below o g n w r e f h =
    omega (arith, simp (add-mul, one-mul) at (ap (λ (x : ℕ). x * g) f), div-add-mod' n g)

pub exact_above : (o g n w r : ℕ) → n + most ≡ o → w ≡ most + n / g → r ≡ n % g → o + most * g ≡ w * g + r + most
exact_above o g n w r e f h =
    omega (arith, simp add-mul at (ap (λ (x : ℕ). x * g) f), div-add-mod' n g)

-- ---- order: by the whole parts, then by what is left
-- raised by M and over g, then over g and g'
raised : (M o g g' w r p m : ℕ) → o + m ≡ M + p → o + M * g ≡ w * g + r + M
    → (o * g' + m * g' ≡ M * g' + p * g') × (o * g' + M * (g * g') ≡ w * (g * g') + r * g' + M * g')
raised M o g g' w r p m e f = (simp add-mul at (ap (λ (n : ℕ). n * g') e), simp (add-mul, mul_assoc) at (ap (λ (n : ℕ). n * g') f))

module _ (a b : Mixed) where
  abbrev left : Fraction
  left = quotient_as a.quotient

  abbrev right : Fraction
  right = quotient_as b.quotient

  abbrev both : ℕ
  both = a.quotient.den * b.quotient.den

  abbrev mine : ℕ
  mine = a.whole * both + a.rest * b.quotient.den

  abbrev yours : ℕ
  yours = b.whole * both + b.rest * a.quotient.den

  below_parts : below left right ≡ ltb mine yours
  below_parts =
      let x = lowered_by most a.quotient.num in
      let y = lowered_by most b.quotient.num in
      let p = raised most a.quotient.num a.quotient.den b.quotient.den a.whole a.rest (plus x) (minus x) (lower_is most a.quotient.num) a.exact in
      let q = rw (mul_comm b.quotient.den a.quotient.den) at (raised most b.quotient.num b.quotient.den a.quotient.den b.whole b.rest (plus y) (minus y) (lower_is most b.quotient.num) b.exact) in
      let one = plus x * b.quotient.den + minus y * a.quotient.den in
      let other = plus y * a.quotient.den + minus x * b.quotient.den in
      ticks_below x y a.quotient.den b.quotient.den ∙ same_test one other mine yours (λ h. omega (arith, p, q)) (λ h. omega (arith, p, q))

  fewer : a.rest * b.quotient.den < both
  fewer = mul-lt-mul_of_pos_right a.left b.quotient.some

  fewer' : b.rest * a.quotient.den < both
  fewer' = rw (mul_comm a.quotient.den b.quotient.den) (mul-lt-mul_of_pos_right b.left a.quotient.some)

  pub wholes : a.whole ≢ b.whole → ltb a.whole b.whole ≡ below left right
  wholes e =
      same_test a.whole b.whole mine yours
      (λ h. omega (arith, fewer, simp suc-mul at (mul-le-mul_right both h)))
      (λ h. let k : b.whole < a.whole = omega arith in omega (arith, fewer', simp suc-mul at (mul-le-mul_right both k)))
      ∙ sym below_parts

  module _ (e : a.whole ≡ b.whole) where
    pub rests : ltb (a.rest * b.quotient.den) (b.rest * a.quotient.den) ≡ below left right
    rests = sym (below_parts ∙ rw e (same_test _ _ (a.rest * b.quotient.den) (b.rest * a.quotient.den) (λ h. omega arith) (λ h. omega arith)))

    pub evens : a.quotient.den ≡ b.quotient.den → ltb a.rest b.rest ≡ below left right
    evens g =
        sym (times_test a.rest b.rest b.quotient.den b.quotient.some)
        ∙ ap (λ (d : ℕ). ltb (a.rest * b.quotient.den) (b.rest * d)) (sym g)
        ∙ rests
