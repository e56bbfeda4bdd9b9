-- The date and the clock, each as one run of pairs, read and written.
use mathlib.Core.Path.{◌≡◌, refl, ap, ◌∙◌}
use mathlib.Core.Bool.{Bool, true, false}
use mathlib.Core.List.{List, ◌++◌}
use Prim.Native.Nat.{ℕ, ◌+◌, ◌-◌, ◌*◌, ◌/◌, ◌%◌, ◌<◌, ◌≤◌}
use native.Mathlib.Omega.{arith}
use lib.IntN.{ℤ}
use lib.ListN.{length}
use Rattle.base.specs.Outcome.{Outcome, and_then}
use Rattle.octets.specs.Places.{bcd}
use Rattle.calendar.specs.Gregorian.{day_of_date, day_of_ordinal}
use Rattle.calendar.specs.declared.Date.{Date}
use Rattle.calendar.specs.declared.Ordinal.{Ordinal}
use Rattle.clock.specs.Clock.{clock_of, minute_of}
use Rattle.clock.proofs.Laws.{shown}
use Rattle.ccs.specs.Ccs.{pairs, day_at, clock_at, ordinal_text, month_text, clock_text}
use Rattle.ccs.proofs.Pairs.{split, pairs_append}

-- ---- reading
-- the day that eight digits name
abbrev pub day_in : Bool → ℕ → Outcome ℤ
day_in true n = day_of_ordinal (n / 10000) (n % 10000)
day_in false n = day_of_date (n / 10000) (n / 100 % 100) (n % 100)

-- the second of the day that six digits name
abbrev pub clock_in : ℕ → Outcome ℕ
clock_in n = clock_of (n / 10000) (n / 100 % 100) (n % 100)

high : (n : ℕ) → n % 10000 / 100 ≡ n / 100 % 100
high n = omega arith

low : (n : ℕ) → n % 10000 % 100 ≡ n % 100
low n = omega arith

-- a run of four digits in its two pairs, behind others
pub fine : {B : Type 0} (K : ℕ → ℕ → ℕ → Outcome B) (n : ℕ) → K (n / 10000) (n % 10000 / 100) (n % 10000 % 100) ≡ K (n / 10000) (n / 100 % 100) (n % 100)
fine K n = λ i. K (n / 10000) (high n i) (low n i)

-- three fields, the last two of a pair each, are one run
three : {B : Type 0} (s : List ℕ) (at w : ℕ) (K : ℕ → ℕ → ℕ → Outcome B) → w ≤ 7 → at + (w + 2) ≤ length s → and_then (pairs s at w) (λ a. and_then (pairs s (at + w) 1) (λ b. and_then (pairs s (at + w + 1) 1) (λ c. K a b c))) ≡ and_then (pairs s at (w + 2)) (λ n. K (n / 10000) (n / 100 % 100) (n % 100))
three s at w K h l =
    (λ i. and_then (pairs s at w) (λ a. split s (at + w) (at + w + 1) 1 1 (K a) refl (omega arith) (omega arith) i))
    ∙ split s at (at + w) w 2 (λ a n. K a (n / 100) (n % 100)) refl (omega arith) l
    ∙ (λ i. and_then (pairs s at (w + 2)) (λ n. fine K n i))

module _ (s : List ℕ) (at : ℕ) where
  pub day_whole : (o : Bool) → at + 4 ≤ length s → day_at o s at ≡ and_then (pairs s at 4) (day_in o)
  unfolding day_at
  day_whole true l = split s at (at + 2) 2 2 day_of_ordinal refl (omega arith) l
  day_whole false l = let e : at + 3 ≡ at + 2 + 1 = omega arith in rw e (three s at 2 day_of_date (omega arith) l)

  pub clock_whole : at + 3 ≤ length s → clock_at s at ≡ and_then (pairs s at 3) clock_in
  unfolding clock_at
  clock_whole l =
      let e : at + 2 ≡ at + 1 + 1 = omega arith in
      rw e (three s at 1 clock_of (omega arith) l)

  -- what the run gives, the date and the clock give
  pub day_run : at + 4 ≤ length s → (o : Bool) → {x : Outcome ℕ} → pairs s at 4 ≡ x → day_at o s at ≡ and_then x (day_in o)
  day_run l o e = day_whole o l ∙ ap (λ (y : Outcome ℕ). and_then y (day_in o)) e

  pub clock_run : at + 3 ≤ length s → {x : Outcome ℕ} → pairs s at 3 ≡ x → clock_at s at ≡ and_then x clock_in
  clock_run l e = clock_whole l ∙ ap (λ (y : Outcome ℕ). and_then y clock_in) e

-- ---- writing
pub ordinal_run : (o : Ordinal) → o.day < 10000 → bcd 4 (o.year * 10000 + o.day) ≡ ordinal_text o
ordinal_run o h = pairs_append 2 2 o.year o.day h

pub month_run : (t : Date) → t.month < 100 → t.day < 100 → bcd 4 (t.year * 10000 + t.month * 100 + t.day) ≡ month_text t
month_run t h k =
    let e : t.year * 10000 + t.month * 100 + t.day ≡ t.year * 10000 + (t.month * 100 + t.day) = omega arith in
    ap (bcd 4) e
    ∙ pairs_append 2 2 t.year (t.month * 100 + t.day) (omega arith)
    ∙ ap (λ (x : List ℕ). bcd 2 t.year ++ x) (pairs_append 1 1 t.month t.day k)

-- the six digits of a clock
abbrev pub clock_number : ℕ → ℕ → ℕ → ℕ
clock_number h m x = h * 10000 + m * 100 + x

pub clock_pairs : (h m x : ℕ) → m < 100 → x < 100 → bcd 3 (clock_number h m x) ≡ bcd 1 h ++ (bcd 1 m ++ bcd 1 x)
clock_pairs h m x l k =
    let e : h * 10000 + m * 100 + x ≡ h * 10000 + (m * 100 + x) = omega arith in
    ap (bcd 3) e ∙ pairs_append 1 2 h (m * 100 + x) (omega arith) ∙ ap (λ (y : List ℕ). bcd 1 h ++ y) (pairs_append 1 1 m x k)

abbrev pub digits_of : ℕ → ℕ
digits_of n = clock_number (minute_of n / 60) (minute_of n % 60) (n - minute_of n * 60)

pub clock_text_lem : (n : ℕ) → n ≤ 86400 → bcd 3 (digits_of n) ≡ clock_text n
unfolding clock_text
clock_text_lem n h =
    let w = shown n h in
    clock_pairs (minute_of n / 60) (minute_of n % 60) (n - minute_of n * 60) (omega (arith, w.minute)) (omega (arith, w.second))
