-- Euclid: the greatest common divisor through remainders; and what divides a product and shares nothing with one factor divides the other.
use mathlib.Core.Path.{◌≡◌, sym, ap, ◌∙◌}
use mathlib.Core.Logic.{⊎_elim}
use Prim.Native.Nat.{ℕ, zero, suc, ◌*◌, ◌/◌, ◌%◌, ◌<◌, ◌≤◌, ◌∣◌}
use native.Mathlib.Nat.{dvd_refl, one-dvd, dvd-mod_iff, dvd-mul_left, dvd-mul_right, dvd-mul_right_of_dvd, dvd-add_iff_right, dvd_of_mod-eq-zero, mul-div_cancel', eq_of_mul-eq-mul_left, eq-zero-or-pos, mod-lt, mul_left_comm, add-mul, div-add-mod'}
use native.Mathlib.Omega.{arith}
use Rattle.drift.specs.Fraction.{Coprime}

-- one turn of Euclid on b and a; `next` is the law at b % a and a
turn : (a b c : ℕ) → 0 < a → Coprime a b → a ∣ b * c
    → ((m : ℕ) → 0 < b % a → Coprime (b % a) a → b % a ∣ a * m → b % a ∣ m) → a ∣ c
turn a b c z cop d next = ⊎_elim whole left (eq-zero-or-pos r)
  where
    r : ℕ
    r = b % a

    whole : r ≡ 0 → a ∣ c
    whole e = rw (cop a (dvd_refl a) (dvd_of_mod-eq-zero a e)) (one-dvd c)

    part : a ∣ r * c
    part =
        (dvd-add_iff_right a (dvd-mul_right_of_dvd a (dvd-mul_left a (b / a)) c)).1
        (rw (← add-mul (b / a * a) r c, div-add-mod' b a) d)

    m : ℕ
    m = r * c / a

    left : 0 < r → a ∣ c
    left p =
        let s : r ∣ m = next m p (λ d u v. cop d v ((dvd-mod_iff d v).0 u)) (rw (mul-div_cancel' a part) (dvd-mul_right r c)) in
        let e : r * c ≡ r * (a * (m / r)) = sym (mul-div_cancel' a part) ∙ ap (λ (x : ℕ). a * x) (sym (mul-div_cancel' r s)) ∙ mul_left_comm a r (m / r) in
        rw (eq_of_mul-eq-mul_left r p c (a * (m / r)) e) (dvd-mul_right a (m / r))

below : (n a b c : ℕ) → 0 < a → a ≤ n → Coprime a b → a ∣ b * c → a ∣ c
below zero a b c z h cop d = absurd (omega arith)
below (suc n) a b c z h cop d = turn a b c z cop d (λ m p k. below n (b % a) a m p (omega (arith, mod-lt b z)) k)

-- Gauss
pub gauss : (a b c : ℕ) → 0 < a → Coprime a b → a ∣ b * c → a ∣ c
gauss a b c z = below a a b c z (omega arith)
