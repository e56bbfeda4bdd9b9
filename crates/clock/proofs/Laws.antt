-- A second of the day and the clock that shows it, there and back.
use mathlib.Core.Path.{◌≡◌, refl, subst}
use mathlib.Core.Bool.{Bool, true, false, cond, ◌&&◌, ◌||◌}
use Prim.Native.Nat.{ℕ, ◌-◌, ◌*◌, ◌/◌, ◌%◌, ◌<◌, ◌≤◌}
use native.Mathlib.Omega.{arith}
use lib.Dec.{ltb, eqb}
use borrow.Author.Tests.{lt-ltb, le-ltb, ltb-true, ltb-false, eqb-true}
use Rattle.base.specs.Outcome.{done}
use Rattle.base.proofs.Bools.{and_true, cond_yes, cond_no}
use Rattle.base.proofs.Ladders.{need_done, done_is}
use Rattle.clock.specs.Clock.{clock_ok, second_of_day, clock_of, minute_of}

-- ---- the minute of a second
pub minute_early : (n : ℕ) → n < 86400 → minute_of n ≡ n / 60
minute_early n h = cond_yes _ _ (lt-ltb n 86400 h)

pub minute_last : (n : ℕ) → 86400 ≤ n → minute_of n ≡ 1439
minute_last n h = cond_no _ _ (le-ltb n 86400 h)

-- ---- the clock that shows a second, which is in minute m of its day
pub record Shown (n m : ℕ) : Type 0 where
  pub hour : m / 60 ≤ 23
  pub minute : m % 60 ≤ 59
  pub start : m * 60 ≤ n
  pub second : n - m * 60 ≤ 60

pub shown : (n : ℕ) → n ≤ 86400 → Shown n (minute_of n)
shown n h = go (ltb n 86400) refl
  where
    go : (t : Bool) → ltb n 86400 ≡ t → Shown n (cond t (n / 60) 1439)
    go true e = let l = ltb-true n 86400 e in record { hour = omega arith; minute = omega arith; start = omega arith; second = omega arith }
    go false e = let l = ltb-false n 86400 e in record { hour = omega arith; minute = omega arith; start = omega arith; second = omega arith }

-- it is good, and shows that second
pub shown_back : (n : ℕ) → n ≤ 86400 → clock_of (minute_of n / 60) (minute_of n % 60) (n - minute_of n * 60) ≡ done n
shown_back n h = go (ltb n 86400) refl
  where
    go : (t : Bool) → ltb n 86400 ≡ t → let m = cond t (n / 60) 1439 in clock_of (m / 60) (m % 60) (n - m * 60) ≡ done n
    go true e =
        let l = ltb-true n 86400 e in
        let z : second_of_day (n / 60 / 60) (n / 60 % 60) (n - n / 60 * 60) ≡ n = omega arith in
        rw (lt-ltb (n / 60 / 60) 24 (omega arith), lt-ltb (n / 60 % 60) 60 (omega arith), lt-ltb (n - n / 60 * 60) 60 (omega arith), z)
    go false e = let z : n ≡ 86400 = omega (arith, ltb-false n 86400 e) in rw z

-- ---- the fields of a good clock, from the second that it shows
pub record Shows (h m s n : ℕ) : Type 0 where
  pub low : n ≤ 86400
  pub hour : minute_of n / 60 ≡ h
  pub minute : minute_of n % 60 ≡ m
  pub second : n - minute_of n * 60 ≡ s

pub shows : (h m s : ℕ) → clock_ok h m s ≡ true → Shows h m s (second_of_day h m s)
shows h m s g = go (ltb s 60) refl (ltb-true h 24 p.0) (ltb-true m 60 q.0) q.1
  where
    p : (ltb h 24 ≡ true) × (ltb m 60 && (ltb s 60 || (eqb s 60 && (eqb h 23 && eqb m 59))) ≡ true)
    p = and_true (ltb h 24) _ g

    q : (ltb m 60 ≡ true) × (ltb s 60 || (eqb s 60 && (eqb h 23 && eqb m 59)) ≡ true)
    q = and_true (ltb m 60) _ p.1

    go : (t : Bool) → ltb s 60 ≡ t → h < 24 → m < 60 → t || (eqb s 60 && (eqb h 23 && eqb m 59)) ≡ true → Shows h m s (second_of_day h m s)
    go true e a b f =
        let l = ltb-true s 60 e in
        let k = lt-ltb (second_of_day h m s) 86400 (omega arith) in
        record { low = omega arith; hour = rw k (omega arith); minute = rw k (omega arith); second = rw k (omega arith) }
    go false e a b f =
        let (x, y) = and_true (eqb s 60) (eqb h 23 && eqb m 59) f in
        let (u, v) = and_true (eqb h 23) (eqb m 59) y in
        rw (eqb-true s 60 x, eqb-true h 23 u, eqb-true m 59 v) (record { low = omega arith; hour = refl; minute = refl; second = refl })

pub clock_back : (h m s n : ℕ) → clock_of h m s ≡ done n → Shows h m s n
clock_back h m s n e =
    let (g, f) = need_done (clock_ok h m s) 4 (done (second_of_day h m s)) n e in
    subst (λ (k : ℕ). Shows h m s k) (done_is (second_of_day h m s) n f) (shows h m s g)
