-- The fields of a code. Each is read, or refused 4, so that the tests of digits and those of ranges may come in any order.
use mathlib.Core.Path.{◌≡◌, refl, sym, ap}
use mathlib.Core.Bool.{Bool, true, false, ◌&&◌}
use mathlib.Core.List.{List}
use Prim.Native.Nat.{ℕ, ◌+◌, ◌-◌, ◌*◌, ◌/◌, ◌^◌, ◌<◌, ◌≤◌}
use native.Mathlib.Omega.{arith}
use borrow.Author.Tests.{le-leb}
use lib.IntN.{ℤ}
use lib.ListN.{length}
use Rattle.base.specs.Outcome.{Outcome, done, refused, need, and_then, given}
use Rattle.base.specs.Said.{said}
use Rattle.base.specs.declared.Refusal.TheVariants.{Field}
use Rattle.base.proofs.Ladders.{refused_is}
use Rattle.scale.specs.Time.{per_second}
use Rattle.scale.proofs.Fractions.{ticks_lt}
use Rattle.octets.specs.Counts.{decimal_at, count_of}
use Rattle.octets.specs.Places.{digit_value, digit_good}
use Rattle.octets.proofs.Places.{digit_rule}
use Rattle.octets.proofs.Counts.{Read, told, read_lt}
use Rattle.calendar.specs.Gregorian.{is_date, is_ordinal, index_of_date, index_of_ordinal, day_of_date, day_of_ordinal, day_index, day_of_year, from_epoch}
use Rattle.clock.specs.Clock.{clock_ok, clock_of, second_of_day}
use Rattle.moment.specs.Decimal.{ticks_of}
use Rattle.moment.specs.Moment.{moment}
use Rattle.moment.proofs.Decimal.{grain}
use Rattle.ascii.specs.declared.Layout.{Layout}
use Rattle.ascii.specs.Ascii.{front_of, number_at, day_at, clock_at, fields_of}
use Rattle.ascii.specs.Inner.{figures_at, date_figures, clock_figures, figures}
use Rattle.std.specs.Prelude.{cond, Ok, Err}

-- ---- a number
says : (g : Bool) (n : ℕ) → said (cond g (Ok n) (Err Field)) ≡ need g 4 (done n)
says true n = refl
says false n = refl

module _ (s : List ℕ) (at w : ℕ) where
  -- where its characters are there, only a digit can be refused
  pub number : w ≤ 12 → at + w ≤ length s → said (decimal_at s at w) ≡ need (figures_at s at w) 4 (done (number_at s at w))
  unfolding count_of
  number h l = rw (le-leb w 19 (omega arith), le-leb (at + w) (length s) l) (says (figures_at s at w) (number_at s at w))

-- ---- fields, each refused where its digits are, and those whose digits are tested first
two : {A : Type 0} (a b : Bool) (x y : ℕ) (k : ℕ → ℕ → Outcome A) → need (a && b) 4 (k x y) ≡ and_then (need a 4 (done x)) (λ x. and_then (need b 4 (done y)) (λ y. k x y))
two true true x y k = refl
two true false x y k = refl
two false b x y k = refl

three : {A : Type 0} (a b c : Bool) (x y z : ℕ) (k : ℕ → ℕ → ℕ → Outcome A) → need (a && (b && c)) 4 (k x y z) ≡ and_then (need a 4 (done x)) (λ x. and_then (need b 4 (done y)) (λ y. and_then (need c 4 (done z)) (λ z. k x y z)))
three true b c x y z k = two b c y z (k x)
three false b c x y z k = refl

given_need : {A B : Type 0} (f : A → B) (t : Bool) (n : ℕ) (x : Outcome A) → given f (need t n x) ≡ need t n (given f x)
given_need f true n x = refl
given_need f false n x = refl

module _ (s : List ℕ) where
  abbrev read : ℕ → ℕ → Outcome ℕ
  read at w = said (decimal_at s at w)

  abbrev day_in : Bool → Outcome ℤ
  day_in true = and_then (read 0 4) (λ y. and_then (read 5 3) (λ d. day_of_ordinal y d))
  day_in false = and_then (read 0 4) (λ y. and_then (read 5 2) (λ m. and_then (read 8 2) (λ d. day_of_date y m d)))

  pub day_told : 17 ≤ length s → (o : Bool) → given from_epoch (need (date_figures o s) 4 (day_at o s)) ≡ day_in o
  unfolding date_figures day_at
  day_told h true =
      rw (given_need from_epoch, number s 0 4 (omega arith) (omega arith), number s 5 3 (omega arith) (omega arith))
      (two (figures_at s 0 4) (figures_at s 5 3) (number_at s 0 4) (number_at s 5 3) day_of_ordinal)
  day_told h false =
      rw (given_need from_epoch, number s 0 4 (omega arith) (omega arith), number s 5 2 (omega arith) (omega arith), number s 8 2 (omega arith) (omega arith))
      (three (figures_at s 0 4) (figures_at s 5 2) (figures_at s 8 2) (number_at s 0 4) (number_at s 5 2) (number_at s 8 2) day_of_date)

  pub clock_told : (at : ℕ) → at + 8 ≤ length s → need (clock_figures s at) 4 (clock_at s at) ≡ and_then (read at 2) (λ h. and_then (read (at + 3) 2) (λ m. and_then (read (at + 6) 2) (λ x. clock_of h m x)))
  unfolding clock_figures clock_at
  clock_told at h =
      rw (number s at 2 (omega arith) (omega arith), number s (at + 3) 2 (omega arith) (omega arith), number s (at + 6) 2 (omega arith) (omega arith))
      (three (figures_at s at 2) (figures_at s (at + 3) 2) (figures_at s (at + 6) 2) (number_at s at 2) (number_at s (at + 3) 2) (number_at s (at + 6) 2) clock_of)

-- ---- what is refused is 4
only_4 : {A : Type 0} (t : Bool) (a : A) (n : ℕ) → need t 4 (done a) ≡ refused n → n ≡ 4
only_4 true a n e = absurd (let z : ◌≡◌ {A = ℕ} 0 1 = cc in let y : ⊥ = omega arith in y)
only_4 false a n e = sym (refused_is 4 n e)

pub day_4 : (o : Bool) (s : List ℕ) (n : ℕ) → day_at o s ≡ refused n → n ≡ 4
unfolding day_at index_of_date index_of_ordinal
day_4 true s n e = only_4 (is_ordinal (number_at s 0 4) (number_at s 5 3)) (day_index (number_at s 0 4) (number_at s 5 3)) n e
day_4 false s n e =
    let y = number_at s 0 4 in
    let m = number_at s 5 2 in
    let d = number_at s 8 2 in
    only_4 (is_date y m d) (day_index y (day_of_year y m d)) n e

clock_4 : (s : List ℕ) (at n : ℕ) → clock_at s at ≡ refused n → n ≡ 4
unfolding clock_at
clock_4 s at n e =
    let h = number_at s at 2 in
    let m = number_at s (at + 3) 2 in
    let x = number_at s (at + 6) 2 in
    only_4 (clock_ok h m x) (second_of_day h m x) n e

-- ---- all fields
-- so the digits' tests may come first, or each with its field
ladder : (d c f : Bool) (day clock : Outcome ℕ) (t : ℕ) → ((n : ℕ) → day ≡ refused n → n ≡ 4) → ((n : ℕ) → clock ≡ refused n → n ≡ 4)
    → need (d && (c && f)) 4 (and_then day (λ k. and_then clock (λ x. done (moment (from_epoch k) x t)))) ≡ and_then (given from_epoch (need d 4 day)) (λ z. and_then (need c 4 clock) (λ x. and_then (need f 4 (done t)) (λ y. done (moment z x y))))
ladder false c f day clock t h k = refl
ladder true false f (done n) clock t h k = refl
ladder true true true (done n) (done x) t h k = refl
ladder true true false (done n) (done x) t h k = refl
ladder true true true (done n) (refused x) t h k = refl
ladder true true false (done n) (refused x) t h k = ap refused (sym (k x refl))
ladder true false f (refused n) clock t h k = ap refused (sym (h n refl))
ladder true true true (refused n) clock t h k = refl
ladder true true false (refused n) clock t h k = ap refused (sym (h n refl))

pub fields_told : (l : Layout) (s : List ℕ)
    → need (figures l s) 4 (fields_of l s) ≡ and_then (given from_epoch (need (date_figures l.ordinal s) 4 (day_at l.ordinal s))) (λ z. and_then (need (clock_figures s (front_of l.ordinal - 8)) 4 (clock_at s (front_of l.ordinal - 8))) (λ x. and_then (need (figures_at s (front_of l.ordinal + 1) l.digits) 4 (done (ticks_of l.digits (number_at s (front_of l.ordinal + 1) l.digits)))) (λ t. done (moment z x t))))
unfolding figures fields_of
fields_told l s =
    ladder (date_figures l.ordinal s) (clock_figures s (front_of l.ordinal - 8)) (figures_at s (front_of l.ordinal + 1) l.digits) (day_at l.ordinal s) (clock_at s (front_of l.ordinal - 8)) (ticks_of l.digits (number_at s (front_of l.ordinal + 1) l.digits)) (day_4 l.ordinal s) (clock_4 s (front_of l.ordinal - 8))

-- ---- a fraction that is read, and its ticks, which are fewer than a second's
module _ (s : List ℕ) (at d n : ℕ) (e : decimal_at s at d ≡ Ok n) where
  told_read : Read 10 digit_value digit_good 19 s at d n d
  told_read = told 10 digit_value digit_good 19 s at d (Ok n) e

  pub ticks_told : need (figures_at s at d) 4 (done (ticks_of d (number_at s at d))) ≡ done (n * (per_second / 10 ^ d))
  ticks_told = rw (told_read.good, ← told_read.is) refl

  pub number_below : n < 10 ^ d
  number_below = read_lt told_read digit_rule

  pub ticks_below : d ≤ 12 → n * (per_second / 10 ^ d) < per_second
  ticks_below h = ticks_lt (grain d h) n number_below

pub ruleset fractions = (number, ticks_told, number_below, ticks_below)
