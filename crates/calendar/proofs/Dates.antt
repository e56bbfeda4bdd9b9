-- Laws of dates and of days of a year: what their tests say, and that each is inverse to the index.
use Prim.Native.Nat.{ℕ, ◌+◌, ◌-◌, ◌*◌, ◌/◌, ◌≤◌, ◌<◌}
use mathlib.Core.Path.{◌≡◌, refl, sym, ap, ◌∙◌}
use mathlib.Core.Bool.{Bool, true, false, cond, ◌&&◌}
use native.Mathlib.Omega.{arith}
use lib.Dec.{leb, ltb}
use mir.Syntax.{w64}
use mir.Val.{Fits, bool_byte}
use mathlib.Core.List.{List}
use lib.ListN.{get_or}
use borrow.Author.Tests.{le-leb, leb-true, leb-false}
use Rattle.base.proofs.Bools.{and_left, and_right}
use Rattle.calendar.specs.declared.Ordinal.{Ordinal}
use Rattle.calendar.specs.Gregorian.{kind, year_length, year_start, years_to, row, up_to, months_to, month_length, is_date, is_ordinal, day_index, day_of_year, ordinal_on, ymd, date_in}
use Rattle.calendar.proofs.Years.{Holds, kind_lt, next_start, year_end, start_mono, years_hold, years_unique}
use Rattle.calendar.proofs.Rows.{months_is, row_length, row_next, row_le, row_found, Found, Parted, month_begun, parted}

-- ---- what the tests say
pub record GoodOrdinal (y d : ℕ) : Type 0 where
  pub year_low : 1 ≤ y
  pub year_high : y ≤ 9999
  pub day_low : 1 ≤ d
  pub day_high : d ≤ year_length y

pub record GoodDate (y m d : ℕ) : Type 0 where
  pub year_low : 1 ≤ y
  pub year_high : y ≤ 9999
  pub month_low : 1 ≤ m
  pub month_high : m ≤ 12
  pub day_low : 1 ≤ d
  pub day_high : d ≤ get_or (row (kind y)) (m - 1) 0

-- a day from 1 to n, of a year from 1 to 9999
days_of : (y d n : ℕ) → leb 1 y && leb y 9999 && leb 1 d && leb d n ≡ true → (1 ≤ y) × (y ≤ 9999) × (1 ≤ d) × (d ≤ n)
days_of y d n e =
    let p = and_left (leb 1 y && leb y 9999 && leb 1 d) (leb d n) e in
    let q = and_left (leb 1 y && leb y 9999) (leb 1 d) p in (
      leb-true 1 y (and_left (leb 1 y) (leb y 9999) q),
      leb-true y 9999 (and_right (leb 1 y) (leb y 9999) q),
      leb-true 1 d (and_right (leb 1 y && leb y 9999) (leb 1 d) p),
      leb-true d n (and_right (leb 1 y && leb y 9999 && leb 1 d) (leb d n) e),
    )

of_days : (y d n : ℕ) → 1 ≤ y → y ≤ 9999 → 1 ≤ d → d ≤ n → leb 1 y && leb y 9999 && leb 1 d && leb d n ≡ true
of_days y d n a b p q = simp (le-leb 1 y a, le-leb y 9999 b, le-leb 1 d p, le-leb d n q)

pub good_ordinal : (y d : ℕ) → is_ordinal y d ≡ true → GoodOrdinal y d
unfolding is_ordinal
good_ordinal y d e =
    let (a, b, p, q) = days_of y d (year_length y) e in
    record { year_low = a; year_high = b; day_low = p; day_high = q }

pub is_ordinal_lem : (y d : ℕ) → GoodOrdinal y d → is_ordinal y d ≡ true
unfolding is_ordinal
is_ordinal_lem y d g = of_days y d (year_length y) g.year_low g.year_high g.day_low g.day_high

-- the length of a month
pub month_is : (y m : ℕ) → 1 ≤ m → m ≤ 12 → month_length y m ≡ get_or (row (kind y)) (m - 1) 0
unfolding month_length
month_is y m l h = simp (le-leb 1 m l, le-leb m 12 h)

-- a month that has days is a month
month_in : (y m : ℕ) → 1 ≤ month_length y m → (1 ≤ m) × (m ≤ 12)
unfolding month_length
month_in y m = go (leb 1 m && leb m 12) refl
  where
    go : (t : Bool) → leb 1 m && leb m 12 ≡ t → 1 ≤ cond t (get_or (row (kind y)) (m - 1) 0) 0 → (1 ≤ m) × (m ≤ 12)
    go true e h = (leb-true 1 m (and_left (leb 1 m) (leb m 12) e), leb-true m 12 (and_right (leb 1 m) (leb m 12) e))
    go false e h = absurd (omega arith)

pub good_date : (y m d : ℕ) → is_date y m d ≡ true → GoodDate y m d
unfolding is_date
good_date y m d e =
    let (a, b, p, q) = days_of y d (month_length y m) e in
    let (l, h) = month_in y m (omega arith) in
    record { year_low = a; year_high = b; month_low = l; month_high = h; day_low = p; day_high = omega (arith, month_is y m l h) }

pub is_date_lem : (y m d : ℕ) → GoodDate y m d → is_date y m d ≡ true
unfolding is_date
is_date_lem y m d g =
    of_days y d (month_length y m) g.year_low g.year_high g.day_low (omega (arith, month_is y m g.month_low g.month_high))

-- ---- a day of a year, and its index
pub last_end : year_start 9999 ≡ 3652059
unfolding year_start
last_end = refl

pub index_le : (y d : ℕ) → GoodOrdinal y d → day_index y d ≤ 3652058
unfolding day_index
index_le y d g = omega (arith, year_end y g.year_low, start_mono y 9999 g.year_high, last_end)

held : (y d : ℕ) → GoodOrdinal y d → Holds (y - 1) (day_index y d)
unfolding day_index
held y d g =
    let e : y - 1 + 1 ≡ y = omega arith in
    (omega arith, rw e (omega (arith, year_end y g.year_low)))

parts : (y d : ℕ) → GoodOrdinal y d → ◌≡◌ {A = Ordinal} (record { year = y - 1 + 1; day = day_index y d - year_start (y - 1) + 1 }) (record { year = y; day = d })
unfolding day_index
parts y d g =
    let e : y - 1 + 1 ≡ y = omega arith in
    let f : year_start (y - 1) + (d - 1) - year_start (y - 1) + 1 ≡ d = omega arith in
    rw (e, f)

pub ordinal_on_index : (y d : ℕ) → GoodOrdinal y d → ordinal_on (day_index y d) ≡ record { year = y; day = d }
unfolding ordinal_on
ordinal_on_index y d g = rw (years_unique (y - 1) (day_index y d) (held y d g)) (parts y d g)

one_off : (a : ℕ) → a + 1 - 1 ≡ a
one_off a = omega arith

pub index_on_ordinal : (n : ℕ) → day_index (ordinal_on n).year (ordinal_on n).day ≡ n
unfolding day_index ordinal_on
index_on_ordinal n = rw (one_off (years_to n)) (omega (arith, (years_hold n).0))

pub years_lt : (n : ℕ) → n ≤ 3652058 → years_to n < 9999
years_lt n h = go (leb 9999 (years_to n)) refl
  where
    go : (t : Bool) → leb 9999 (years_to n) ≡ t → years_to n < 9999
    go true e = absurd (omega (arith, start_mono 9999 (years_to n) (leb-true 9999 (years_to n) e), last_end, (years_hold n).0))
    go false e = leb-false 9999 (years_to n) e

pub good_on : (n : ℕ) → n ≤ 3652058 → GoodOrdinal (ordinal_on n).year (ordinal_on n).day
unfolding ordinal_on
good_on n h =
    record {
      year_low = omega arith;
      year_high = omega (arith, years_lt n h);
      day_low = omega arith;
      day_high = omega (arith, (years_hold n).1, next_start (years_to n));
    }

-- ---- a date, and its day of the year
pub date_at_day : (y i d : ℕ) → i < 12 → 1 ≤ d → d ≤ get_or (row (kind y)) i 0 → date_in (record { year = y; day = up_to (row (kind y)) i + d }) ≡ ymd y (i + 1) d
unfolding date_in
date_at_day y i d h p l =
    let e : up_to (row (kind y)) i + d - up_to (row (kind y)) i ≡ d = omega arith in
    simp (months_is (row (kind y)) i d (rw (row_length (kind y) (kind_lt y)) h) p l, e)

-- as the code has it: what the months before leave of the day
pub date_parted : (o : Ordinal) (m p : ℕ) → Parted (kind o.year) o.day m p → ymd o.year (m + 1 + p) (o.day - up_to (row (kind o.year)) m - get_or (row (kind o.year)) m 0 * p) ≡ date_in o
date_parted o m p g =
    let ls = row (kind o.year) in
    let d = o.day - up_to ls m - get_or ls m 0 * p in
    let f : m + 1 + p ≡ m + p + 1 = omega arith in
    let q : up_to ls (m + p) + d ≡ o.day = omega (arith, g.days, g.low) in
    rw f (sym (date_at_day o.year (m + p) d g.inside (omega (arith, g.low)) (omega (arith, g.high))) ∙ ap (λ (x : ℕ). date_in (record { year = o.year; day = x })) q)

pub begun : (y d : ℕ) → is_ordinal y d ≡ true → ((d - 1) / 32 < 12) × (up_to (row (kind y)) ((d - 1) / 32) < d)
begun y d e = let g = good_ordinal y d e in month_begun (kind y) (kind_lt y) d g.day_low g.day_high

pub dated : (o : Ordinal) → is_ordinal o.year o.day ≡ true → let ls = row (kind o.year) in let m = (o.day - 1) / 32 in let p = bool_byte (ltb (get_or ls m 0) (o.day - up_to ls m)) in ymd o.year (m + 1 + p) (o.day - up_to ls m - get_or ls m 0 * p) ≡ date_in o
dated o e = let g = good_ordinal _ _ e in date_parted o _ _ (parted _ (kind_lt _) _ g.day_low g.day_high _ refl)

pub date_of_date : (y m d : ℕ) → GoodDate y m d → date_in (record { year = y; day = day_of_year y m d }) ≡ ymd y m d
date_of_date y m d g =
    let e : m - 1 + 1 ≡ m = omega arith in
    rw e at (date_at_day y (m - 1) d (omega arith) g.day_low g.day_high)

pub ordinal_of_date : (y m d : ℕ) → GoodDate y m d → GoodOrdinal y (day_of_year y m d)
ordinal_of_date y m d g =
    let s = kind_lt y in
    record {
      year_low = g.year_low;
      year_high = g.year_high;
      day_low = omega arith;
      day_high = omega (arith, row_next (kind y) s (m - 1) (omega arith), row_le (kind y) s (m - 1 + 1) (omega arith));
    }

-- as the code has it: p days passed before the month
pub date_passed : (y m d p : ℕ) (ls : List ℕ) → is_date y m d ≡ true → p ≡ up_to ls (m - 1) → ls ≡ row (kind y) → is_ordinal y (p + d) ≡ true
date_passed y m d p ls e f h = rw (f, h) (is_ordinal_lem _ _ (ordinal_of_date y m d (good_date y m d e)))

pub passed_fits : (y m d p : ℕ) (ls : List ℕ) → is_date y m d ≡ true → p ≡ up_to ls (m - 1) → ls ≡ row (kind y) → Fits w64 (p + d)
passed_fits y m d p ls e f h = record { fits = omega (arith, (good_ordinal _ _ (date_passed y m d p ls e f h)).day_high, kind_lt y) }

module _ (o : Ordinal) (g : GoodOrdinal o.year o.day) where
  place : Found (row (kind o.year)) o.day (months_to (row (kind o.year)) o.day)
  place = row_found (kind o.year) (kind_lt o.year) o.day g.day_low g.day_high

  pub day_of_date_in : day_of_year o.year (date_in o).month (date_in o).day ≡ o.day
  unfolding date_in
  day_of_date_in = rw (one_off (months_to (row (kind o.year)) o.day)) (omega (arith, place.low))

  pub good_in : GoodDate o.year (date_in o).month (date_in o).day
  unfolding date_in
  good_in =
      let p = place in
      record {
        year_low = g.year_low;
        year_high = g.year_high;
        month_low = omega arith;
        month_high = omega (arith, row_length (kind o.year) (kind_lt o.year));
        day_low = omega arith;
        day_high = rw (one_off (months_to (row (kind o.year)) o.day)) (omega arith);
      }
