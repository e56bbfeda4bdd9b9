-- Sums of the lengths of a list, and the place of a day among them, for any list; and the two rows of the months.
use Prim.Native.Nat.{ℕ, zero, suc, ◌+◌, ◌-◌, ◌*◌, ◌/◌, ◌≤◌, ◌<◌, min, zero-le}
use mathlib.Core.Path.{◌≡◌, refl, ap}
use mathlib.Core.Bool.{Bool, true, false, cond, ◌&&◌}
use mathlib.Core.List.{List, [], ◌∷◌}
use native.Mathlib.Nat.{add-zero, le_of_suc-le-suc, not-suc-le-zero}
use native.Mathlib.Numerals.{add-one, unary_clauses}
use native.Mathlib.Omega.{arith}
use lib.Dec.{leb, ltb}
use lib.ListN.{length, get_or}
use mir.Val.{bool_byte}
use borrow.Author.Tests.{leb-true, leb-false, le-leb, lt-leb, ltb-true, ltb-false}
use Rattle.base.proofs.Bools.{and_left, and_right}
use Rattle.base.proofs.Steps.{mono}
use Rattle.calendar.specs.Gregorian.{row, up_to, months_to}

up_to_suc : (ls : List ℕ) (i : ℕ) → i < length ls → up_to ls (suc i) ≡ up_to ls i + get_or ls i 0
up_to_suc [] i h = absurd (not-suc-le-zero h)
up_to_suc (l ∷ ls) zero h = omega arith
up_to_suc (l ∷ ls) (suc i) h = omega (arith, up_to_suc ls i (le_of_suc-le-suc h))

up_suc : (ls : List ℕ) (i : ℕ) → up_to ls i ≤ up_to ls (suc i)
up_suc ls zero = zero-le
up_suc [] (suc i) = zero-le
up_suc (l ∷ ls) (suc i) = omega (arith, up_suc ls i)

up : (ls : List ℕ) (i : ℕ) → up_to ls i ≤ up_to ls (i + 1)
up ls i = rw add-one (up_suc ls i)

pub up_to_mono : (ls : List ℕ) (i j : ℕ) → i ≤ j → up_to ls i ≤ up_to ls j
up_to_mono ls = mono (up_to ls) (up ls)

-- a turn of the sum of the first m lengths over all: the one at i is added if it is one of them
abbrev Turn : List ℕ → ℕ → ℕ → ℕ → Type 0
Turn ls m i n = (up_to ls (min (i + 1) m) ≡ up_to ls (min i m) + n) × (n ≤ get_or ls i 0)

pub turn : (ls : List ℕ) (m i : ℕ) → i < length ls → Turn ls m i (get_or ls i 0 * bool_byte (ltb i m))
turn ls m i h = go (ltb i m) refl
  where
    go : (t : Bool) → ltb i m ≡ t → Turn ls m i (get_or ls i 0 * bool_byte t)
    go true e =
        let u : i < m = ltb-true i m e in
        let a : min (i + 1) m ≡ suc i = omega arith in
        let b : min i m ≡ i = omega arith in
        rw (a, b) (omega (arith, up_to_suc ls i h))
    go false e =
        let u : m ≤ i = ltb-false i m e in
        let a : min (i + 1) m ≡ min i m = omega arith in
        rw a (omega arith)

up_to_none : (i : ℕ) → up_to [] i ≡ 0
up_to_none zero = refl
up_to_none (suc i) = refl

-- no more are added than there are
pub up_to_all : (ls : List ℕ) (i m : ℕ) → length ls ≤ i → up_to ls (min i m) ≡ up_to ls m
up_to_all [] i zero h = simp unary_clauses
up_to_all [] i (suc m) h = up_to_none (min i (suc m))
up_to_all (l ∷ ls) zero m h = absurd (not-suc-le-zero h)
up_to_all (l ∷ ls) (suc i) zero h = simp unary_clauses
up_to_all (l ∷ ls) (suc i) (suc m) h = simp unary_clauses (ap (λ (n : ℕ). l + n) (up_to_all ls i m (le_of_suc-le-suc h)))

-- ---- `months_to` is the place whose days hold the d-th, and no other
pub months_is : (ls : List ℕ) (i d : ℕ) → i < length ls → 1 ≤ d → d ≤ get_or ls i 0 → months_to ls (up_to ls i + d) ≡ i
months_is [] i d h p k = absurd (not-suc-le-zero h)
months_is (l ∷ ls) zero d h p k = rw (le-leb (0 + d) l (omega arith))
months_is (l ∷ ls) (suc i) d h p k =
    let e : l + up_to ls i + d - l ≡ up_to ls i + d = omega arith in
    rw (lt-leb (l + up_to ls i + d) l (omega arith), e) (ap suc (months_is ls i d (le_of_suc-le-suc h) p k))

pub record Found (ls : List ℕ) (d i : ℕ) : Type 0 where
  pub inside : i < length ls
  pub low : up_to ls i < d
  pub high : d ≤ up_to ls i + get_or ls i 0

found_at : (l : ℕ) (ls : List ℕ) (d : ℕ) (b : Bool) → leb d l ≡ b → 1 ≤ d → d ≤ l + up_to ls (length ls) → (1 ≤ d - l → d - l ≤ up_to ls (length ls) → Found ls (d - l) (months_to ls (d - l))) → Found (l ∷ ls) d (cond b 0 (suc (months_to ls (d - l))))
found_at l ls d true e p h f = record { inside = omega arith; low = omega arith; high = omega (arith, leb-true d l e) }
found_at l ls d false e p h f =
    let k : l < d = leb-false d l e in
    let g : Found ls (d - l) (months_to ls (d - l)) = f (omega arith) (omega arith) in
    record { inside = omega arith; low = omega arith; high = omega arith }

pub found : (ls : List ℕ) (d : ℕ) → 1 ≤ d → d ≤ up_to ls (length ls) → Found ls d (months_to ls d)
found [] d p h = absurd (omega arith)
found (l ∷ ls) d p h = found_at l ls d (leb d l) refl p h (found ls (d - l))

-- ---- a test that holds of every entry
abbrev every : (ℕ → Bool) → List ℕ → Bool
every p [] = true
every p (l ∷ ls) = p l && every p ls

every_at : (p : ℕ → Bool) (ls : List ℕ) → every p ls ≡ true → (i : ℕ) → i < length ls → p (get_or ls i 0) ≡ true
every_at p [] e i h = absurd (not-suc-le-zero h)
every_at p (l ∷ ls) e zero h = and_left (p l) (every p ls) e
every_at p (l ∷ ls) e (suc i) h = every_at p ls (and_right (p l) (every p ls) e) i (le_of_suc-le-suc h)

-- ---- the two rows: what is computed of both holds of each
of_two : (P : ℕ → Type 0) → P 0 → P 1 → (k : ℕ) → k < 2 → P k
of_two P a b zero h = a
of_two P a b (suc zero) h = b
of_two P a b (suc (suc k)) h = absurd (omega arith)

pub row_length : (k : ℕ) → k < 2 → length (row k) ≡ 12
unfolding row
row_length = of_two (λ k. length (row k) ≡ 12) refl refl

pub row_total : (k : ℕ) → k < 2 → up_to (row k) 12 ≡ 365 + k
unfolding row
row_total = of_two (λ k. up_to (row k) 12 ≡ 365 + k) refl refl

abbrev good_length : ℕ → Bool
good_length l = leb 28 l && leb l 31

row_lengths : (k : ℕ) → k < 2 → every good_length (row k) ≡ true
unfolding row
row_lengths = of_two (λ k. every good_length (row k) ≡ true) refl refl

-- day d of a year is in month m + p, where p is 0 or 1
pub record Parted (k d m p : ℕ) : Type 0 where
  pub inside : m + p < 12
  pub days : up_to (row k) (m + p) ≡ up_to (row k) m + get_or (row k) m 0 * p
  pub low : up_to (row k) (m + p) < d
  pub high : d ≤ up_to (row k) (m + p) + get_or (row k) (m + p) 0

module _ (k : ℕ) (h : k < 2) where
  pub row_next : (i : ℕ) → i < 12 → up_to (row k) (i + 1) ≡ up_to (row k) i + get_or (row k) i 0
  row_next i l = rw add-one (up_to_suc (row k) i (rw (row_length k h) l))

  pub row_le : (i : ℕ) → i ≤ 12 → up_to (row k) i ≤ 365 + k
  row_le i l = rw (← row_total k h) (up_to_mono (row k) i 12 l)

  pub row_found : (d : ℕ) → 1 ≤ d → d ≤ 365 + k → Found (row k) d (months_to (row k) d)
  row_found d p l = found (row k) d p (rw (row_length k h, row_total k h) l)

  -- every month has 28 to 31 days
  pub length_in : (i : ℕ) → i < 12 → (28 ≤ get_or (row k) i 0) × (get_or (row k) i 0 ≤ 31)
  length_in i l =
      let n = get_or (row k) i 0 in
      let e : good_length n ≡ true = every_at good_length (row k) (row_lengths k h) i (rw (row_length k h) l) in
      (leb-true 28 n (and_left (leb 28 n) (leb n 31) e), leb-true n 31 (and_right (leb 28 n) (leb n 31) e))

  -- n months have at most 31 n days
  days_le : (i n : ℕ) → i + n ≤ 12 → up_to (row k) (i + n) ≤ up_to (row k) i + 31 * n
  days_le i zero l = rw (add-zero i) (omega arith)
  days_le i (suc n) l =
      let e : i + suc n ≡ i + n + 1 = omega arith in
      rw e (omega (arith, days_le i n (omega arith), row_next (i + n) (omega arith), length_in (i + n) (omega arith)))

  -- so have those before month i, and those from it on
  around : (i : ℕ) → i ≤ 12 → (up_to (row k) i ≤ 31 * i) × (365 + k ≤ up_to (row k) i + 31 * (12 - i))
  around i l =
      let e : 0 + i ≡ i = omega arith in
      let f : i + (12 - i) ≡ 12 = omega arith in
      (omega (arith, rw e at (days_le 0 i (omega arith))), omega (arith, row_total k h, rw f at (days_le i (12 - i) (omega arith))))

  -- day d of a year is in the month with (d - 1) / 32 months before it, or in the next
  module _ (d : ℕ) (p : 1 ≤ d) (q : d ≤ 365 + k) where
    abbrev m : ℕ
    m = (d - 1) / 32

    pub month_begun : (m < 12) × (up_to (row k) m < d)
    month_begun = (omega arith, omega (arith, around m (omega arith)))

    pub parted : (t : Bool) → ltb (get_or (row k) m 0) (d - up_to (row k) m) ≡ t → Parted k d m (bool_byte t)
    parted false e =
        let (i, u) = month_begun in
        let l = ltb-false _ _ e in
        let f : m + bool_byte false ≡ m = omega arith in
        record { inside = omega arith; days = rw f (omega arith); low = rw f u; high = rw f (omega arith) }
    parted true e =
        let (i, u) = month_begun in
        let f = row_next m i in
        let l = ltb-true _ _ e in
        let j : m + 1 < 12 = omega (arith, around (m + 1) (omega arith)) in
        record { inside = j; days = omega arith; low = omega arith; high = omega (arith, row_next (m + 1) j, around (m + 1 + 1) (omega arith)) }
