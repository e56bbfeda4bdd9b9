-- Laws of the years: each begins where the one before it ends, and a day is in one year only.
use Prim.Native.Nat.{ℕ, ◌+◌, ◌-◌, ◌*◌, ◌/◌, ◌%◌, ◌≤◌, ◌<◌}
use mathlib.Core.Path.{◌≡◌, refl}
use mathlib.Core.Bool.{Bool, true, false, cond}
use native.Mathlib.Omega.{arith}
use lib.Dec.{leb, eqb, lit<}
use mir.Val.{bool_byte}
use borrow.Author.Tests.{eqb-true, eqb-false, leb-true, leb-false}
use Rattle.base.proofs.Steps.{mono, one_step}
use Rattle.calendar.specs.Gregorian.{is_leap, kind, year_length, year_start, years_to}

by4 : (n : ℕ) → n % 100 ≡ 0 → n % 4 ≡ 0
by4 n h = omega arith

by100 : (n : ℕ) → n % 400 ≡ 0 → n % 100 ≡ 0
by100 n h = omega arith

-- the quotient of the next number: one more at a multiple, and the same elsewhere
turn4 : (n : ℕ) → (n + 1) % 4 ≡ 0 → (n + 1) / 4 ≡ n / 4 + 1
turn4 n h = omega arith

stay4 : (n : ℕ) → ((n + 1) % 4 ≡ 0 → ⊥) → (n + 1) / 4 ≡ n / 4
stay4 n h = omega arith

turn100 : (n : ℕ) → (n + 1) % 100 ≡ 0 → (n + 1) / 100 ≡ n / 100 + 1
turn100 n h = omega arith

stay100 : (n : ℕ) → ((n + 1) % 100 ≡ 0 → ⊥) → (n + 1) / 100 ≡ n / 100
stay100 n h = omega arith

turn400 : (n : ℕ) → (n + 1) % 400 ≡ 0 → (n + 1) / 400 ≡ n / 400 + 1
turn400 n h = omega arith

stay400 : (n : ℕ) → ((n + 1) % 400 ≡ 0 → ⊥) → (n + 1) / 400 ≡ n / 400
stay400 n h = omega arith

hundred_le : (n : ℕ) → n / 100 ≤ n
hundred_le n = omega arith

-- the sum, where the three quotients are numbers: q is n / 4, c is n / 100 and f is n / 400
sum : (n q c f q' c' f' k : ℕ) → c ≤ n → q' + f' + c ≡ q + f + c' + k → 365 * (n + 1) + q' + f' - c' ≡ 365 * n + q + f - c + (365 + k)
sum n q c f q' c' f' k h e = omega arith

step : (n : ℕ) (a b c : Bool) → eqb ((n + 1) % 4) 0 ≡ a → eqb ((n + 1) % 100) 0 ≡ b → eqb ((n + 1) % 400) 0 ≡ c → (n + 1) / 4 + (n + 1) / 400 + n / 100 ≡ n / 4 + n / 400 + (n + 1) / 100 + cond (cond a (cond b c true) false) 1 0
step n false b c p q r =
    let no4 : (n + 1) % 4 ≡ 0 → ⊥ = eqb-false ((n + 1) % 4) 0 p in
    let no100 : (n + 1) % 100 ≡ 0 → ⊥ = λ e. no4 (by4 (n + 1) e) in
    simp (stay4 n no4, stay100 n no100, stay400 n (λ e. no100 (by100 (n + 1) e))) (omega arith)
step n true false c p q r =
    let no100 : (n + 1) % 100 ≡ 0 → ⊥ = eqb-false ((n + 1) % 100) 0 q in
    simp (turn4 n (eqb-true ((n + 1) % 4) 0 p), stay100 n no100, stay400 n (λ e. no100 (by100 (n + 1) e))) (omega arith)
step n true true false p q r =
    simp (turn4 n (eqb-true ((n + 1) % 4) 0 p), turn100 n (eqb-true ((n + 1) % 100) 0 q), stay400 n (eqb-false ((n + 1) % 400) 0 r)) (omega arith)
step n true true true p q r =
    simp (turn4 n (eqb-true ((n + 1) % 4) 0 p), turn100 n (eqb-true ((n + 1) % 100) 0 q), turn400 n (eqb-true ((n + 1) % 400) 0 r)) (omega arith)

pub next_start : (n : ℕ) → year_start (n + 1) ≡ year_start n + year_length (n + 1)
unfolding kind year_start
next_start n = sum n (n / 4) (n / 100) (n / 400) ((n + 1) / 4) ((n + 1) / 100) ((n + 1) / 400) _ (hundred_le n) (step n _ _ _ refl refl refl)

pub year_end : (y : ℕ) → 1 ≤ y → year_start y ≡ year_start (y - 1) + year_length y
year_end y h = let e : y - 1 + 1 ≡ y = omega arith in rw e at (next_start (y - 1))

up : (n : ℕ) → year_start n ≤ year_start (n + 1)
up n = omega (arith, next_start n)

pub start_mono : (a b : ℕ) → a ≤ b → year_start a ≤ year_start b
start_mono = mono year_start up

pub kind_byte : (y : ℕ) → bool_byte (is_leap y) ≡ kind y
unfolding kind
kind_byte y = go (is_leap y)
  where
    go : (b : Bool) → bool_byte b ≡ cond b 1 0
    go true = refl
    go false = refl

pub kind_lt : (y : ℕ) → kind y < 2
unfolding kind
kind_lt y = go (is_leap y)
  where
    go : (b : Bool) → cond b 1 0 < 2
    go true = lit< tt
    go false = lit< tt

-- ---- the estimate is the year, or the year before it
estimate_low : (n : ℕ) → year_start (n * 400 / 146097) ≤ n
unfolding year_start
estimate_low n = omega arith

estimate_high : (n : ℕ) → n < year_start (n * 400 / 146097 + 1 + 1)
unfolding year_start
estimate_high n = omega arith

-- day n is in the year with y years before it
abbrev pub Holds : ℕ → ℕ → Type 0
Holds y n = (year_start y ≤ n) × (n < year_start (y + 1))

picked : (n y : ℕ) (b : Bool) → leb (year_start (y + 1)) n ≡ b → year_start y ≤ n → n < year_start (y + 1 + 1) → Holds (cond b (y + 1) y) n
picked n y true e l h = (leb-true (year_start (y + 1)) n e, h)
picked n y false e l h = (l, leb-false (year_start (y + 1)) n e)

pub years_hold : (n : ℕ) → Holds (years_to n) n
unfolding years_to
years_hold n = picked n (n * 400 / 146097) _ refl (estimate_low n) (estimate_high n)

pub years_unique : (y n : ℕ) → Holds y n → years_to n ≡ y
years_unique y n h = one_step year_start up (years_to n) y n (years_hold n).0 (years_hold n).1 h.0 h.1
