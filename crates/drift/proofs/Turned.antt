-- Whether an/ad is less than bn/bd: by the whole parts of bd/bn and ad/an, then by what is left of them.
use mathlib.Core.Path.{◌≡◌, sym, ap, ◌∙◌}
use Rattle.std.specs.Prelude.{◌≢◌}
use Prim.Native.Nat.{ℕ, ◌+◌, ◌*◌, ◌/◌, ◌%◌, ◌<◌}
use native.Mathlib.Nat.{lt-div-mul-add, div-add-mod', div-mul-le_self, suc-mul, add-mul, mul_comm, mul_right_comm, mul-le-mul_right, mul-lt-mul_of_pos_right}
use native.Mathlib.Omega.{arith}
use lib.Dec.{ltb}
use Rattle.drift.proofs.Orders.{same_test}

-- a whole part that is less makes the fraction less
lower : (xn xd yn yd : ℕ) → 0 < xd → 0 < yd → xn / xd < yn / yd → xn * yd < yn * xd
lower xn xd yn yd zx zy h =
    let q : ℕ = yn / yd in
    omega (
      arith,
      mul-lt-mul_of_pos_right {m = xn} {n = xn / xd * xd + xd} (lt-div-mul-add zx) zy,
      mul-le-mul_right yd (mul-le-mul_right xd h),
      ap (λ (x : ℕ). x * yd) (suc-mul (xn / xd) xd),
      mul_right_comm q xd yd,
      mul-le-mul_right xd (div-mul-le_self yn yd),
    )

-- whole parts that differ, turned over, decide; where they are the same, what is left does
module _ (an ad bn bd : ℕ) (za : 0 < an) (zb : 0 < bn) where
  pub turned : ad / an ≢ bd / bn → ltb (bd / bn) (ad / an) ≡ ltb (an * bd) (bn * ad)
  turned e =
      rw (mul_comm an bd, mul_comm bn ad)
      (same_test (bd / bn) (ad / an) (bd * an) (ad * bn) (lower bd bn ad an zb za) (λ h. omega (arith, lower ad an bd bn za zb (omega arith))))

  pub turned_rest : ad / an ≡ bd / bn → ltb (bd % bn * an) (ad % an * bn) ≡ ltb (an * bd) (bn * ad)
  turned_rest e =
      let w : ℕ = bd / bn in
      let left : bd * an ≡ w * bn * an + bd % bn * an = ap (λ (x : ℕ). x * an) (sym (div-add-mod' bd bn)) ∙ add-mul (w * bn) (bd % bn) an in
      let right : ad * bn ≡ w * bn * an + ad % an * bn =
      ap (λ (x : ℕ). x * bn) (sym (div-add-mod' ad an)) ∙ add-mul (ad / an * an) (ad % an) bn ∙ rw (e, mul_right_comm w an bn) in
      rw (mul_comm an bd, mul_comm bn ad, left, right) (same_test (bd % bn * an) (ad % an * bn) (w * bn * an + bd % bn * an) (w * bn * an + ad % an * bn) (λ h. omega arith) (λ h. omega arith))
