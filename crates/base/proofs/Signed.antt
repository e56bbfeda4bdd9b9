-- The laws of an integer's parts: each operation and each order of ℤ as a linear fact about `plus` and `minus`, for `omega`'s list; and back, an equation of integers from one of parts.
use mathlib.Core.Path.{◌≡◌, refl, sym, ap, ◌∙◌}
use mathlib.Core.Bool.{Bool, true, false, not, cond}
use Prim.Native.Nat.{ℕ, zero, suc, ◌+◌, ◌*◌, ◌-◌, ◌/◌, ◌%◌, ◌^◌, ◌<◌, ◌≤◌, min}
use native.Mathlib.Nat.{zero-mul, suc-mul, add-mul, add-zero, zero-add, div-add-mod', mod-lt}
use lib.Arith.{digits_div, digits_mod}
use native.Mathlib.Omega.{arith}
use lib.Dec.{T, ltb, leb, ltb→lt, nltb→le, leb-suc-suc}
use lib.IntN.{ℤ, pos, negsuc, neg_ℤ, nat_abs, sub_ℕ, ◌+ℤ◌, ◌-ℤ◌, ◌*ℤ◌}
use lib.Signed.{mag, lt_z, le_z, non_neg}
use mir.Syntax.{Width}
use mir.Val.{SFits, Fits, to_z, of_z, bits, hbits}
use mir.ValLaws.{to_z-of_z}
use borrow.Author.Tests.{lt-ltb, le-ltb, le-leb, lt-leb, ltb-true, ltb-false, leb-true, leb-false}
use Rattle.base.specs.Parts.{plus, minus, within, At, lowered_by, bits_of, signed_of, floor, rest}
use Rattle.base.proofs.Bools.{and_left, and_right, and_false, cond_yes, cond_no, by_two}
use Rattle.base.specs.Seats.{seat_of}
use Rattle.std.specs.Prelude.{Some, None}

-- one of the two parts is 0
pub apart : (z : ℤ) → min (plus z) (minus z) ≡ 0
apart (pos n) = omega arith
apart (negsuc n) = omega arith

-- an equation of integers, from one of parts
pub same : (a b : ℤ) → plus a + minus b ≡ plus b + minus a → a ≡ b
same (pos a) (pos b) e = ap pos (omega arith)
same (pos a) (negsuc b) e = absurd (omega arith)
same (negsuc a) (pos b) e = absurd (omega arith)
same (negsuc a) (negsuc b) e = ap negsuc (omega arith)

-- the operations
by_test : (c : Bool) (a b : ℕ) → (T c → a < b) → (T (not c) → b ≤ a) → plus (cond c (negsuc (b - suc a)) (pos (a - b))) + b ≡ minus (cond c (negsuc (b - suc a)) (pos (a - b))) + a
by_test true a b f g = let h : a < b = f tt in omega arith
by_test false a b f g = let h : b ≤ a = g tt in omega arith

pub less : (a b : ℕ) → plus (sub_ℕ a b) + b ≡ minus (sub_ℕ a b) + a
less a b = by_test (ltb a b) a b (ltb→lt a b) (nltb→le a b)

-- n stands for what it is lowered to, and for nothing else
pub lower_is : (B n : ℕ) → At B n (lowered_by B n)
lower_is B n = omega (arith, less n B)

pub lower_at : (B n : ℕ) (z : ℤ) → At B n z → lowered_by B n ≡ z
lower_at B n z e = same (lowered_by B n) z (omega (arith, less n B))

pub sum : (a b : ℤ) → plus (a +ℤ b) + (minus a + minus b) ≡ minus (a +ℤ b) + (plus a + plus b)
sum (pos a) (pos b) = omega arith
sum (pos a) (negsuc b) = omega (arith, less a (suc b))
sum (negsuc a) (pos b) = omega (arith, less b (suc a))
sum (negsuc a) (negsuc b) = omega arith

pub neg_plus : (z : ℤ) → plus (neg_ℤ z) ≡ minus z
neg_plus (pos zero) = refl
neg_plus (pos (suc n)) = refl
neg_plus (negsuc n) = refl

pub neg_minus : (z : ℤ) → minus (neg_ℤ z) ≡ plus z
neg_minus (pos zero) = refl
neg_minus (pos (suc n)) = refl
neg_minus (negsuc n) = refl

pub difference : (a b : ℤ) → plus (a -ℤ b) + (minus a + plus b) ≡ minus (a -ℤ b) + (plus a + minus b)
difference a b = omega (arith, sum a (neg_ℤ b), neg_plus b, neg_minus b)

pub times_plus : (z : ℤ) (k : ℕ) → plus (z *ℤ pos k) ≡ plus z * k
times_plus (pos n) k = refl
times_plus (negsuc n) k = neg_plus (pos (suc n * k)) ∙ sym (zero-mul k)

pub times_minus : (z : ℤ) (k : ℕ) → minus (z *ℤ pos k) ≡ minus z * k
times_minus (pos n) k = sym (zero-mul k)
times_minus (negsuc n) k = neg_minus (pos (suc n * k))

-- a line, z * k + n
pub line : (z : ℤ) (k n : ℕ) → plus (z *ℤ pos k +ℤ pos n) + minus z * k ≡ minus (z *ℤ pos k +ℤ pos n) + (plus z * k + n)
line z k n = omega (arith, sum (z *ℤ pos k) (pos n), times_plus z k, times_minus z k)

-- the sizes
pub mag_is : (z : ℤ) → mag z ≡ plus z + (minus z - 1)
mag_is (pos n) = omega arith
mag_is (negsuc n) = omega arith

pub abs_is : (z : ℤ) → nat_abs z ≡ plus z + minus z
abs_is (pos n) = omega arith
abs_is (negsuc n) = omega arith

-- the tests of order
pub lt_z_is : (a b : ℤ) → lt_z a b ≡ ltb (plus a + minus b) (plus b + minus a)
lt_z_is (pos a) (pos b) = simp add-zero
lt_z_is (pos a) (negsuc b) = sym (le-ltb (a + suc b) (0 + 0) (omega arith))
lt_z_is (negsuc a) (pos b) = sym (lt-ltb (0 + 0) (b + suc a) (omega arith))
lt_z_is (negsuc a) (negsuc b) = sym (leb-suc-suc (suc b) a) ∙ simp zero-add

pub le_z_is : (a b : ℤ) → le_z a b ≡ leb (plus a + minus b) (plus b + minus a)
le_z_is (pos a) (pos b) = simp add-zero
le_z_is (pos a) (negsuc b) = sym (lt-leb (a + suc b) (0 + 0) (omega arith))
le_z_is (negsuc a) (pos b) = sym (le-leb (0 + 0) (b + suc a) (omega arith))
le_z_is (negsuc a) (negsuc b) = sym (leb-suc-suc b a) ∙ simp zero-add

-- a test's outcome, as a fact of parts, for `omega`'s list
pub lt_yes : (a b : ℤ) → lt_z a b ≡ true → plus a + minus b < plus b + minus a
lt_yes a b e = ltb-true _ _ (sym (lt_z_is a b) ∙ e)

pub lt_no : (a b : ℤ) → lt_z a b ≡ false → plus b + minus a ≤ plus a + minus b
lt_no a b e = ltb-false _ _ (sym (lt_z_is a b) ∙ e)

pub le_yes : (a b : ℤ) → le_z a b ≡ true → plus a + minus b ≤ plus b + minus a
le_yes a b e = leb-true _ _ (sym (le_z_is a b) ∙ e)

pub le_no : (a b : ℤ) → le_z a b ≡ false → plus b + minus a < plus a + minus b
le_no a b e = leb-false _ _ (sym (le_z_is a b) ∙ e)

-- and the other way
pub lt_so : (a b : ℤ) → plus a + minus b < plus b + minus a → lt_z a b ≡ true
lt_so a b h = lt_z_is a b ∙ lt-ltb _ _ h

pub lt_not : (a b : ℤ) → plus b + minus a ≤ plus a + minus b → lt_z a b ≡ false
lt_not a b h = lt_z_is a b ∙ le-ltb _ _ h

pub le_so : (a b : ℤ) → plus a + minus b ≤ plus b + minus a → le_z a b ≡ true
le_so a b h = le_z_is a b ∙ le-leb _ _ h

pub le_not : (a b : ℤ) → plus b + minus a < plus a + minus b → le_z a b ≡ false
le_not a b h = le_z_is a b ∙ lt-leb _ _ h

-- the machine's words: what fits, and what is read back of the bits
pub word : (w : Width) (z : ℤ) → plus z < 2 ^ hbits w → minus z ≤ 2 ^ hbits w → SFits w z
word w (pos n) p m = record { sfits = p }
word w (negsuc n) p m = record { sfits = m }

pub word_plus : (w : Width) (z : ℤ) → SFits w z → plus z < 2 ^ hbits w
word_plus w (pos n) f = f.sfits
word_plus w (negsuc n) f = omega (arith, f.sfits)

pub word_minus : (w : Width) (z : ℤ) → SFits w z → minus z ≤ 2 ^ hbits w
word_minus w (pos n) f = omega arith
word_minus w (negsuc n) f = f.sfits

pub back : (w : Width) (z : ℤ) → SFits w z → to_z w (of_z w z) ≡ z
back = to_z-of_z

-- a cast to an unsigned word: defined where there is no minus part, and then it is the plus part
pub cast_fits : (w : Width) (z : ℤ) → minus z ≡ 0 → plus z < 2 ^ bits w → T (non_neg z) × Fits w (nat_abs z)
cast_fits w (pos n) m p = (tt, record { fits = p })
cast_fits w (negsuc n) m p = absurd (omega arith)

-- within two bounds, as facts of parts; and the other way
pub within_low : (lo hi z : ℤ) → within lo hi z ≡ true → plus lo + minus z ≤ plus z + minus lo
unfolding within
within_low lo hi z e = le_yes lo z (and_left (le_z lo z) (le_z z hi) e)

pub within_high : (lo hi z : ℤ) → within lo hi z ≡ true → plus z + minus hi ≤ plus hi + minus z
unfolding within
within_high lo hi z e = le_yes z hi (and_right (le_z lo z) (le_z z hi) e)

pub within_yes : (lo hi z : ℤ) → plus lo + minus z ≤ plus z + minus lo → plus z + minus hi ≤ plus hi + minus z → within lo hi z ≡ true
unfolding within
within_yes lo hi z l h = rw (le_z_is lo z, le-leb (plus lo + minus z) (plus z + minus lo) l, le_z_is z hi, le-leb (plus z + minus hi) (plus hi + minus z) h)

pub within_under : (lo hi z : ℤ) → plus z + minus lo < plus lo + minus z → within lo hi z ≡ false
unfolding within
within_under lo hi z l = rw (le_z_is lo z, lt-leb (plus lo + minus z) (plus z + minus lo) l)

pub within_over : (lo hi z : ℤ) → plus hi + minus z < plus z + minus hi → within lo hi z ≡ false
unfolding within
within_over lo hi z h = and_false (le_z lo z) (le_z z hi) (le_z_is z hi ∙ lt-leb (plus z + minus hi) (plus hi + minus z) h)

-- ---- what stands for an integer, raised: each determines the other
pub at_same : (B n : ℕ) (y z : ℤ) → At B n y → At B n z → y ≡ z
at_same B n y z e f = same y z (omega arith)

pub at_once : (B m n : ℕ) (z : ℤ) → At B m z → At B n z → m ≡ n
at_once B m n z e f = omega arith

-- raised by 2^63, then by as much again or lowered, they are the bits without a sign
pub bits_below : (n : ℕ) (z : ℤ) → At (2 ^ 63) n z → n < 2 ^ 63 → n + 2 ^ 63 ≡ bits_of z
bits_below n (pos m) e h = absurd (omega arith)
bits_below n (negsuc m) e h = omega arith

pub bits_above : (n : ℕ) (z : ℤ) → At (2 ^ 63) n z → 2 ^ 63 ≤ n → n - 2 ^ 63 ≡ bits_of z
bits_above n (pos m) e h = omega arith
bits_above n (negsuc m) e h = absurd (omega arith)

-- and back: what is lowered by 2^63, raised by as much before or lowered once more
pub signed_below : (n : ℕ) (z : ℤ) → At (2 ^ 63) (n + 2 ^ 63) z → n < 2 ^ 63 → z ≡ signed_of n
signed_below n z e h = at_same (2 ^ 63) (n + 2 ^ 63) z (pos n) e (omega arith) ∙ sym (cond_yes _ _ (lt-ltb n (2 ^ 63) h))

pub signed_above : (n : ℕ) (z : ℤ) → At (2 ^ 63) (n - 2 ^ 63) z → 2 ^ 63 ≤ n → z ≡ signed_of n
signed_above n z e h = at_same (2 ^ 63) (n - 2 ^ 63) z (sub_ℕ n (2 ^ 64)) e (omega (arith, less n (2 ^ 64))) ∙ sym (cond_no _ _ (le-ltb n (2 ^ 63) h))

-- the two are inverse
pub signed_bits : (z : ℤ) → plus z < 2 ^ 63 → minus z ≤ 2 ^ 63 → signed_of (bits_of z) ≡ z
signed_bits (pos n) p m = cond_yes _ _ (lt-ltb n (2 ^ 63) p)
signed_bits (negsuc n) p m = cond_no _ _ (le-ltb (2 ^ 64 - suc n) (2 ^ 63) (omega arith)) ∙ same (sub_ℕ (2 ^ 64 - suc n) (2 ^ 64)) (negsuc n) (omega (arith, less (2 ^ 64 - suc n) (2 ^ 64)))

-- n more than what stands for y stands for y + n
pub at_sum : (B m n : ℕ) (y z : ℤ) → At B m y → At B (m + n) z → y +ℤ pos n ≡ z
at_sum B m n y z e f = same (y +ℤ pos n) z (omega (arith, sum y (pos n)))

-- at another bias
pub at_more : (B K n : ℕ) (z : ℤ) → At B n z → At (B + K) (n + K) z
at_more B K n z e = omega arith

-- and a test of raised numbers is the test of the integers
pub lt_z_at : (B m n : ℕ) (y z : ℤ) → At B m y → At B n z → lt_z y z ≡ ltb m n
lt_z_at B m n y z e f =
    by_two (lt_z y z) (ltb m n) (λ h. lt-ltb m n (omega (arith, lt_yes y z h))) (λ h. le-ltb m n (omega (arith, lt_no y z h)))

pub le_z_at : (B m n : ℕ) (y z : ℤ) → At B m y → At B n z → le_z y z ≡ leb m n
le_z_at B m n y z e f =
    by_two (le_z y z) (leb m n) (λ h. le-leb m n (omega (arith, le_yes y z h))) (λ h. lt-leb m n (omega (arith, le_no y z h)))

-- ---- division downward
-- what has the form of quotient and remainder is quotient and remainder
pub floor_line : (k : ℕ) (q : ℤ) (r : ℕ) → r < k → (floor (q *ℤ pos k +ℤ pos r) k ≡ q) × (rest (q *ℤ pos k +ℤ pos r) k ≡ r)
floor_line k (pos q) r h = (ap pos (digits_div q h), digits_mod q h)
floor_line k (negsuc q) r h = (
  ap (λ (z : ℤ). floor z k) below ∙ ap negsuc (digits_div q under),
  ap (λ (z : ℤ). rest z k) below ∙ ap (λ (m : ℕ). k - suc m) (digits_mod q under) ∙ again,
)
  where
    under : k - suc r < k
    under = omega arith

    again : k - suc (k - suc r) ≡ r
    again = omega arith

    below : negsuc q *ℤ pos k +ℤ pos r ≡ negsuc (q * k + (k - suc r))
    below = same (negsuc q *ℤ pos k +ℤ pos r) (negsuc (q * k + (k - suc r))) (omega (arith, line (negsuc q) k r, suc-mul q k, zero-mul k))

pub rest_lt : (z : ℤ) {k : ℕ} → 0 < k → rest z k < k
rest_lt (pos n) h = mod-lt n h
rest_lt (negsuc n) h = omega arith

pub floor_rest : (z : ℤ) (k : ℕ) → 0 < k → floor z k *ℤ pos k +ℤ pos (rest z k) ≡ z
floor_rest (pos n) k h = ap pos (div-add-mod' n k)
floor_rest (negsuc n) k h =
    same (floor (negsuc n) k *ℤ pos k +ℤ pos (rest (negsuc n) k)) (negsuc n)
    (omega (arith, line (negsuc (n / k)) k (k - suc (n % k)), suc-mul (n / k) k, zero-mul k, div-add-mod' n k, mod-lt n h))

-- in unsigned arithmetic: raised by a multiple of k, the quotient is raised by that many, and the remainder is the same
pub floor_at : (B k n : ℕ) (z q : ℤ) → 0 < k → At (B * k) n z → At B (n / k) q → (floor z k ≡ q) × (rest z k ≡ n % k)
floor_at B k n z q h e f =
    (ap (λ (x : ℤ). floor x k) z_is ∙ (floor_line k q (n % k) (mod-lt n h)).0, ap (λ (x : ℤ). rest x k) z_is ∙ (floor_line k q (n % k) (mod-lt n h)).1)
  where
    z_is : z ≡ q *ℤ pos k +ℤ pos (n % k)
    z_is =
        same z (q *ℤ pos k +ℤ pos (n % k))
        (omega (arith, line q k (n % k), div-add-mod' n k, ap (λ (x : ℕ). x * k) f, add-mul (n / k) (minus q) k, add-mul B (plus q) k))

-- ---- what a seat tells
pub record Seated (lo hi z : ℤ) (n : ℕ) : Type 0 where
  pub inside : within lo hi z ≡ true
  pub low : plus lo + minus z ≤ plus z + minus lo
  pub high : plus z + minus hi ≤ plus hi + minus z
  pub place : n + (plus lo + minus z) ≡ plus z + minus lo

pub seat_in_lem : (lo hi z : ℤ) (n : ℕ) → seat_of lo hi z ≡ Some n → Seated lo hi z n
unfolding seat_of
seat_in_lem lo hi z n e = go (within lo hi z) refl e
  where
    go : (b : Bool) → within lo hi z ≡ b → cond b (Some (nat_abs (z -ℤ lo))) None ≡ Some n → Seated lo hi z n
    go true f e =
        let m : nat_abs (z -ℤ lo) ≡ n = cc in
        record {
          inside = f;
          low = within_low lo hi z f;
          high = within_high lo hi z f;
          place = omega (arith, within_low lo hi z f, abs_is (z -ℤ lo), difference z lo, apart (z -ℤ lo));
        }
    go false f e = let a : ◌≡◌ {A = ℕ} 0 1 = cc in absurd (omega arith)

pub seat_out : (lo hi z : ℤ) → seat_of lo hi z ≡ None → within lo hi z ≡ false
unfolding seat_of
seat_out lo hi z e = go (within lo hi z) refl e
  where
    go : (b : Bool) → within lo hi z ≡ b → cond b (Some (nat_abs (z -ℤ lo))) None ≡ None → within lo hi z ≡ false
    go true f e = let a : ◌≡◌ {A = ℕ} 0 1 = cc in absurd (omega arith)
    go false f e = f
