-- A look at one second of a day: which stretch of the day it rules out.
use mathlib.Core.Bool.{Bool, true, false, ◌&&◌}
use mathlib.Core.Path.{◌≡◌, refl, sym, ◌∙◌}
use Prim.Native.Nat.{ℕ, ◌+◌, ◌-◌, ◌*◌, ◌/◌, ◌%◌, ◌≤◌, ◌<◌, min}
use native.Mathlib.Omega.{arith}
use borrow.Author.Tests.{eq-eqb, ne_eqb, lt-ltb}
use Rattle.base.proofs.Bools.{never_both, and_no, and_false, and_assoc}
use Rattle.seek.specs.Naming.{may, clock_fits}
use Rattle.seek.specs.Inner.{Ahead, Skips}
use Rattle.seek.specs.declared.Clock.{Clock}
use Rattle.std.specs.Prelude.{Option, Some, None, MatchOption}

-- ---- one field: anything, one that has passed in this sixty, and one that has not
pub ahead_free : (n : ℕ) → Ahead None n n
ahead_free n = record { on = omega arith; within = omega arith; none = λ k l g. absurd (omega arith); here = λ q. refl }

module _ (v n r : ℕ) where
  pub ahead_past : v < n % 60 → r ≡ n - n % 60 + 60 → Ahead (Some v) n r
  ahead_past h e =
      record {
        on = omega arith;
        within = omega arith;
        none = λ k l g. ne_eqb v (k % 60) (λ q. omega arith);
        here = λ q. absurd (omega arith);
      }

  pub ahead_on : n % 60 ≤ v → r ≡ n - n % 60 + min v 60 → Ahead (Some v) n r
  ahead_on h e =
      record {
        on = omega arith;
        within = omega arith;
        none = λ k l g. ne_eqb v (k % 60) (λ q. omega arith);
        here = λ q. eq-eqb v (n % 60) (omega arith);
      }

-- a wanted number from sixty on fits no place in a sixty
pub past_sixty : (w : Option ℕ) (Q : ℕ → Type 0) → MatchOption w (true ≡ false) Q → ((v : ℕ) → Q v → 60 ≤ v) → (n : ℕ) → n < 60 → may w n ≡ false
past_sixty None Q e l n h = never_both refl e
past_sixty (Some v) Q e l n h = let k : 60 ≤ v = l v e in ne_eqb v n (λ q. omega arith)

-- ---- the fields of a second of a day but 23:59:60, and of that one
fits_common : (k : Clock) (x : ℕ) → x < 86400 → clock_fits k x ≡ (may k.hour (x / 3600) && (may k.minute (x / 60 % 60) && may k.second (x % 60)))
unfolding clock_fits
fits_common k x h =
    let a : x / 60 / 60 ≡ x / 3600 = omega arith in
    let b : x - x / 60 * 60 ≡ x % 60 = omega arith in
    rw (lt-ltb x 86400 h) (rw (a, b))

fits_leap : (k : Clock) → clock_fits k 86400 ≡ (may k.hour 23 && may k.minute 59 && may k.second 60)
unfolding clock_fits
fits_leap k = sym (and_assoc (may k.hour 23) (may k.minute 59) (may k.second 60))

-- a field that does not fit
hour_no : (a b c : Bool) → a ≡ false → (a && (b && c)) ≡ false
hour_no a b c e = and_no (b && c) e

minute_no : (a b c : Bool) → b ≡ false → (a && (b && c)) ≡ false
minute_no a b c e = and_false a (b && c) (and_no c e)

second_no : (a b c : Bool) → c ≡ false → (a && (b && c)) ≡ false
second_no a b c e = and_false a (b && c) (and_false b c e)

module _ (k : Clock) (s : ℕ) (h : s < 86400) where
  pub skip_hour : (n r : ℕ) → Ahead k.hour (s / 3600) n → s / 3600 < n → r ≡ min (n * 3600) 86400 → Skips k s r
  skip_hour n r q l i =
      record {
        on = omega arith;
        within = omega arith;
        common = λ u. omega arith;
        none =
            λ x a b.
            let e : x / 3600 % 60 ≡ x / 3600 = omega arith in
            fits_common k x (omega arith)
            ∙ hour_no (may k.hour (x / 3600)) (may k.minute (x / 60 % 60)) (may k.second (x % 60)) (rw e at (q.none (x / 3600) (omega arith) (omega arith)));
        here = λ e. absurd (omega arith);
      }

  pub skip_minute : (n r : ℕ) → Ahead k.minute (s / 60) n → s / 60 < n → r ≡ n * 60 → Skips k s r
  skip_minute n r q l i =
      record {
        on = omega arith;
        within = omega (arith, q.within);
        common = λ u. omega (arith, q.within);
        none =
            λ x a b.
            fits_common k x (omega (arith, q.within))
            ∙ minute_no (may k.hour (x / 3600)) (may k.minute (x / 60 % 60)) (may k.second (x % 60)) (q.none (x / 60) (omega arith) (omega arith));
        here = λ e. absurd (omega arith);
      }

  -- the hour and the minute fit
  pub skip_second : (m n r : ℕ) → Ahead k.hour (s / 3600) m → m ≤ s / 3600 → Ahead k.minute (s / 60) n → n ≤ s / 60 → Ahead k.second s r → Skips k s r
  skip_second m n r a l b g q =
      let i : s / 3600 % 60 ≡ s / 3600 = omega arith in
      let d : may k.hour (s / 3600) ≡ true = rw i at (a.here (omega (arith, a.on))) in
      record {
        on = q.on;
        within = omega (arith, q.within);
        common = λ u. omega (arith, q.within);
        none =
            λ x c f.
            fits_common k x (omega (arith, q.within))
            ∙ second_no (may k.hour (x / 3600)) (may k.minute (x / 60 % 60)) (may k.second (x % 60)) (q.none x c f);
        here = λ e. fits_common k s h ∙ rw (d, b.here (omega (arith, b.on)), q.here e);
      }

  -- no second below sixty is wanted
  pub skip_day : ((n : ℕ) → n < 60 → may k.second n ≡ false) → (r : ℕ) → r ≡ 86400 → Skips k s r
  skip_day f r i =
      record {
        on = omega arith;
        within = omega arith;
        common = λ u. omega arith;
        none =
            λ x a b.
            fits_common k x (omega arith)
            ∙ second_no (may k.hour (x / 3600)) (may k.minute (x / 60 % 60)) (may k.second (x % 60)) (f (x % 60) (omega arith));
        here = λ e. absurd (omega arith);
      }

module _ (k : Clock) (s r : ℕ) (i : s ≡ 86400) where
  pub leap_fits : (may k.hour 23 && may k.minute 59 && may k.second 60) ≡ true → r ≡ 86400 → Skips k s r
  leap_fits e j =
      record {
        on = omega arith;
        within = omega arith;
        common = λ l. omega arith;
        none = λ x l g. absurd (omega arith);
        here = λ q. rw i (fits_leap k ∙ e);
      }

  pub leap_not : (may k.hour 23 && may k.minute 59 && may k.second 60) ≡ false → r ≡ 86401 → Skips k s r
  leap_not e j =
      record {
        on = omega arith;
        within = omega arith;
        common = λ l. omega arith;
        none = λ x l g. let q : x ≡ 86400 = omega arith in rw q (fits_leap k ∙ e);
        here = λ q. absurd (omega arith);
      }
