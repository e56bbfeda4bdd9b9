-- Lowest terms: what both sides divided by their greatest common divisor are, and nothing else is.
use mathlib.Core.Path.{◌≡◌, refl, sym, ap, ◌∙◌}
use Prim.Native.Nat.{ℕ, ◌+◌, ◌*◌, ◌/◌, ◌<◌, ◌∣◌}
use native.Mathlib.Nat.{one-mul, zero-mul, mul_assoc, mul_comm, mul_right_comm, dvd_antisymm, dvd-mul_left, mul-dvd-mul_right, dvd_of_mul-dvd-mul_right, eq-one_of_dvd-one, pos_of_dvd_of_pos, le_of_dvd, div-mul_cancel, le-div_iff_mul-le, eq_of_mul-eq-mul_right}
use native.Mathlib.Omega.{arith}
use lib.Dec.{lit<}
use Rattle.std.specs.Int.{IsGcd, abs_diff}
use Rattle.std.proofs.lemmas.Int.{unsigned_abs-mul}
use lib.IntN.{ℤ, pos, nat_abs, ◌*ℤ◌}
use Rattle.base.specs.Parts.{plus, minus, lowered_by}
use Rattle.base.proofs.Signed.{same, times_plus, times_minus, abs_is, apart, lower_is}
use Rattle.drift.specs.Fraction.{Fraction, Lowest}
use Rattle.drift.specs.Rate.{step}
use Rattle.drift.specs.Steps.{most, in_ticks, ratio}
use Rattle.drift.proofs.Euclid.{gauss}

-- ---- raised steps, without their sign
pub size_is : (o : ℕ) → abs_diff o most ≡ nat_abs (lowered_by most o)
size_is o = omega (arith, lower_is most o, abs_is (lowered_by most o), apart (lowered_by most o))

module _ (o g n : ℕ) (r : ℤ) (d : g ∣ nat_abs (lowered_by most o)) where
  exact : n ≡ abs_diff o most → n / g * g ≡ n
  exact e = div-mul_cancel g (rw (e, size_is o) d)

  pub shrunk_below : n + o ≡ most → minus r ≡ n / g + plus r → r *ℤ pos g ≡ lowered_by most o
  shrunk_below e f =
      let z = lowered_by most o in
      let m : minus r ≡ n / g = omega (arith, apart r) in
      let p : plus r ≡ 0 = omega (arith, apart r) in
      same (r *ℤ pos g) z (rw (times_plus r g, times_minus r g, m, p, exact (omega arith)) (omega (arith, lower_is most o, apart z)))

  pub shrunk_above : n + most ≡ o → plus r ≡ n / g + minus r → r *ℤ pos g ≡ lowered_by most o
  shrunk_above e f =
      let z = lowered_by most o in
      let m : minus r ≡ 0 = omega (arith, apart r) in
      let p : plus r ≡ n / g = omega (arith, apart r) in
      same (r *ℤ pos g) z (rw (times_plus r g, times_minus r g, m, p, exact (omega arith)) (omega (arith, lower_is most o, apart z)))

-- ---- a product of integers by its parts
pub abs_times : (z : ℤ) (k : ℕ) → nat_abs (z *ℤ pos k) ≡ nat_abs z * k
abs_times z k = unsigned_abs-mul z (pos k)

-- where x j is y, x (k j) is y k
regroup : (x y : ℤ) (j k : ℕ) → x *ℤ pos j ≡ y → x *ℤ pos (k * j) ≡ y *ℤ pos k
regroup x y j k e =
    same (x *ℤ pos (k * j)) (y *ℤ pos k)
    (rw (← e, times_plus (x *ℤ pos j) k, times_minus (x *ℤ pos j) k, times_plus x j, times_minus x j, times_plus x (k * j), times_minus x (k * j))
    (omega (arith, swap (plus x), swap (minus x))))
  where
    swap : (n : ℕ) → n * (k * j) ≡ n * j * k
    swap n = sym (mul_assoc n k j) ∙ mul_right_comm n k j

two_times : (x : ℤ) (j k : ℕ) → x *ℤ pos j *ℤ pos k ≡ x *ℤ pos k *ℤ pos j
two_times x j k = sym (regroup x (x *ℤ pos j) j k refl) ∙ ap (λ (n : ℕ). x *ℤ pos n) (mul_comm k j) ∙ regroup x (x *ℤ pos k) k j refl

-- ---- lowest terms do not see a factor of both
in_ticks_lem : (z : ℤ) (b : ℕ) (f : Fraction) → Lowest (record { num = z; den = b }) f → Lowest (in_ticks z b) f
in_ticks_lem z b f l =
    record {
      positive = l.positive;
      exact = ap (λ (n : ℕ). f.num *ℤ pos n) (mul_comm b step) ∙ regroup f.num (z *ℤ pos f.den) b step l.exact ∙ two_times z f.den step;
      terms = l.terms;
    }

-- ---- lowest terms of z/b
module _ (z num : ℤ) (b g : ℕ) (some-b : 0 < b) (h : IsGcd (nat_abs z) b g) (e : num *ℤ pos g ≡ z) where
  abbrev low : Fraction
  low = record { num = num; den = b / g }

  some-g : 0 < g
  some-g = pos_of_dvd_of_pos h.1 some-b

  lowest : Lowest (record { num = z; den = b }) low
  lowest =
      record {
        positive = (le-div_iff_mul-le some-g).1 (rw one-mul (le_of_dvd some-b h.1));
        exact = ap (λ (n : ℕ). num *ℤ pos n) (sym (div-mul_cancel g h.1)) ∙ regroup num z g (b / g) e;
        terms =
            λ d p q.
            eq-one_of_dvd-one
            (dvd_of_mul-dvd-mul_right d some-g
            (rw one-mul
            (h.2 (d * g)
            (rw (← e, abs_times num g) (mul-dvd-mul_right d p g))
            (rw (div-mul_cancel g h.1) at (mul-dvd-mul_right d q g)))));
      }

-- raised steps over ground steps, both divided by their greatest common divisor
pub lowest_ratio : (o b g : ℕ) (num : ℤ) → 0 < b → IsGcd (nat_abs (lowered_by most o)) b g → num *ℤ pos g ≡ lowered_by most o → Lowest (ratio o b) (record { num = num; den = b / g })
lowest_ratio o b g num z h e = in_ticks_lem (lowered_by most o) b _ (lowest (lowered_by most o) num b g z h e)

-- ---- and there is no other
module _ (q : Fraction) (z : 0 < q.den) where
  abs_exact : (f : Fraction) → Lowest q f → nat_abs f.num * q.den ≡ nat_abs q.num * f.den
  abs_exact f l = sym (abs_times f.num q.den) ∙ ap nat_abs l.exact ∙ abs_times q.num f.den

  -- of two with one value, the denominator of each divides the other's
  divides : (f g : Fraction) → Lowest q f → Lowest q g → f.den ∣ g.den
  divides f g l m =
      gauss f.den (nat_abs f.num) g.den l.positive (λ d u v. l.terms d v u) (rw crossed (dvd-mul_left f.den (nat_abs g.num)))
    where
      crossed : nat_abs f.num * g.den ≡ nat_abs g.num * f.den
      crossed =
          eq_of_mul-eq-mul_right q.den z _ _
          (mul_right_comm (nat_abs f.num) g.den q.den ∙ ap (λ (x : ℕ). x * g.den) (abs_exact f l) ∙ mul_right_comm (nat_abs q.num) f.den g.den
          ∙ ap (λ (x : ℕ). x * f.den) (sym (abs_exact g m)) ∙ mul_right_comm (nat_abs g.num) q.den f.den)

times_once : (x y : ℤ) (b : ℕ) → 0 < b → x *ℤ pos b ≡ y *ℤ pos b → x ≡ y
times_once x y b z e =
    let p : plus x ≡ plus y = eq_of_mul-eq-mul_right b z _ _ (sym (times_plus x b) ∙ ap plus e ∙ times_plus y b) in
    let m : minus x ≡ minus y = eq_of_mul-eq-mul_right b z _ _ (sym (times_minus x b) ∙ ap minus e ∙ times_minus y b) in
    same x y (omega arith)

fraction_is : {n m : ℤ} {d e : ℕ} → n ≡ m → d ≡ e → ◌≡◌ {A = Fraction} (record { num = n; den = d }) (record { num = m; den = e })
fraction_is p q = rw (p, q)

pub lowest_once : (q f g : Fraction) → 0 < q.den → Lowest q f → Lowest q g → f ≡ g
lowest_once q f g z l m =
    let d : f.den ≡ g.den = dvd_antisymm (divides q z f g l m) (divides q z g f m l) in
    fraction_is (times_once f.num g.num q.den z (l.exact ∙ ap (λ (x : ℕ). q.num *ℤ pos x) d ∙ sym m.exact)) d

-- "a zero rate is 0/1"
pub lowest_zero : (q f : Fraction) → 0 < q.den → Lowest q f → q.num ≡ pos 0 → f ≡ record { num = pos 0; den = 1 }
lowest_zero q f z l e =
    lowest_once q f (record { num = pos 0; den = 1 }) z l
    (record { positive = lit< tt; exact = ap pos (zero-mul q.den) ∙ sym (ap (λ (x : ℤ). x *ℤ pos 1) e); terms = λ d u v. eq-one_of_dvd-one v })
