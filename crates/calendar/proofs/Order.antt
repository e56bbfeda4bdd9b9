-- The day after a date has the next index, and a later date a larger one.
use Prim.Native.Nat.{ℕ, ◌+◌, ◌-◌, ◌≤◌, ◌<◌}
use mathlib.Core.Path.{◌≡◌, refl, sym, ◌∙◌}
use mathlib.Core.Bool.{Bool, true, false, cond}
use native.Mathlib.Omega.{arith}
use lib.Dec.{leb, ltb, eqb}
use borrow.Author.Tests.{ltb-true, ltb-false, lt-ltb, le-ltb, eqb-true, eqb-false, leb-true, leb-false}
use Rattle.base.proofs.Bools.{by_two}
use Rattle.calendar.specs.declared.Date.{Date}
use Rattle.calendar.specs.Gregorian.{kind, year_start, row, up_to, month_length, day_index, day_of_year, ymd, next_date, earlier_date}
use Rattle.calendar.proofs.Years.{kind_lt, year_end, start_mono}
use Rattle.calendar.proofs.Rows.{up_to_mono, row_next, row_total, length_in}
use Rattle.calendar.proofs.Dates.{GoodDate, month_is, ordinal_of_date, last_end}

-- ---- the day after
pub record After (n : ℕ) (t : Date) : Type 0 where
  pub good : GoodDate t.year t.month t.day
  pub next : day_index t.year (day_of_year t.year t.month t.day) ≡ n + 1

new_year : (y : ℕ) → day_index (y + 1) (day_of_year (y + 1) 1 1) ≡ year_start y
unfolding day_index
new_year y = let e : y + 1 - 1 ≡ y = omega arith in rw e (omega arith)

module _ (y m d : ℕ) (g : GoodDate y m d) where
  abbrev here : ℕ
  here = day_index y (day_of_year y m d)

  in_month : d < month_length y m → After here (ymd y m (d + 1))
  unfolding day_index
  in_month l =
      record {
        good =
            record {
              year_low = g.year_low;
              year_high = g.year_high;
              month_low = g.month_low;
              month_high = g.month_high;
              day_low = omega arith;
              day_high = omega (arith, month_is y m g.month_low g.month_high);
            };
        next = omega arith;
      }

  at_end : month_length y m ≤ d → up_to (row (kind y)) (m - 1 + 1) ≡ day_of_year y m d
  at_end l = omega (arith, month_is y m g.month_low g.month_high, row_next (kind y) (kind_lt y) (m - 1) (omega arith))

  in_year : month_length y m ≤ d → m < 12 → After here (ymd y (m + 1) 1)
  unfolding day_index
  in_year l h =
      let e : m + 1 - 1 ≡ m - 1 + 1 = omega arith in
      record {
        good =
            record {
              year_low = g.year_low;
              year_high = g.year_high;
              month_low = omega arith;
              month_high = omega arith;
              day_low = omega arith;
              day_high = omega (arith, length_in (kind y) (kind_lt y) (m + 1 - 1) (omega arith));
            };
        next = rw e (omega (arith, at_end l));
      }

  year_more : month_length y m ≤ d → 12 ≤ m → year_start y ≡ here + 1
  unfolding day_index
  year_more l h =
      let e : m - 1 + 1 ≡ 12 = omega arith in
      omega (arith, rw e at (at_end l), row_total (kind y) (kind_lt y), year_end y g.year_low)

  past_year : month_length y m ≤ d → 12 ≤ m → here < 3652058 → After here (ymd (y + 1) 1 1)
  past_year l h q =
      record {
        good =
            record {
              year_low = omega arith;
              year_high = go (leb 9999 y) refl;
              month_low = omega arith;
              month_high = omega arith;
              day_low = omega arith;
              day_high = omega (arith, length_in (kind (y + 1)) (kind_lt (y + 1)) 0 (omega arith));
            };
        next = new_year y ∙ year_more l h;
      }
    where
      go : (t : Bool) → leb 9999 y ≡ t → y + 1 ≤ 9999
      go true e = absurd (omega (arith, start_mono 9999 y (leb-true 9999 y e), last_end, year_more l h))
      go false e = let l = leb-false 9999 y e in omega arith

  pub after : here < 3652058 → After here (next_date (ymd y m d))
  after q = go (ltb d (month_length y m)) (ltb m 12) refl refl
    where
      go : (s t : Bool) → ltb d (month_length y m) ≡ s → ltb m 12 ≡ t → After here (cond s (ymd y m (d + 1)) (cond t (ymd y (m + 1) 1) (ymd (y + 1) 1 1)))
      go true t e f = in_month (ltb-true d (month_length y m) e)
      go false true e f = in_year (ltb-false d (month_length y m) e) (ltb-true m 12 f)
      go false false e f = past_year (ltb-false d (month_length y m) e) (ltb-false m 12 f) q

-- ---- the order
by_order : (x x' a b : ℕ) → (x ≡ x' → ⊥) → (x < x' → a < b) → (x' < x → b < a) → ltb x x' ≡ ltb a b
by_order x x' a b n f g =
    by_two (ltb x x') (ltb a b) (λ h. lt-ltb a b (f (ltb-true x x' h))) (λ h. le-ltb a b (let l = ltb-false x x' h in let k = g (omega arith) in omega arith))

same_month : (a u d d' : ℕ) → 1 ≤ d → 1 ≤ d' → ltb d d' ≡ ltb (a + (u + d - 1)) (a + (u + d' - 1))
same_month a u d d' p p' =
    by_two (ltb d d') (ltb (a + (u + d - 1)) (a + (u + d' - 1)))
    (λ h. lt-ltb (a + (u + d - 1)) (a + (u + d' - 1)) (omega (arith, ltb-true d d' h)))
    (λ h. le-ltb (a + (u + d - 1)) (a + (u + d' - 1)) (omega (arith, ltb-false d d' h)))

module _ (y m d y' m' d' : ℕ) (g : GoodDate y m d) (g' : GoodDate y' m' d') where
  year_less : y < y' → day_index y (day_of_year y m d) < day_index y' (day_of_year y' m' d')
  unfolding day_index
  year_less h = let o = ordinal_of_date y m d g in omega (arith, year_end y g.year_low, start_mono y (y' - 1) (omega arith))

  month_less : y ≡ y' → m < m' → day_index y (day_of_year y m d) < day_index y' (day_of_year y' m' d')
  unfolding day_index
  month_less e h = rw (← e) (omega (arith, row_next (kind y) (kind_lt y) (m - 1) (omega arith), up_to_mono (row (kind y)) (m - 1 + 1) (m' - 1) (omega arith)))

  day_less : y ≡ y' → m ≡ m' → ltb d d' ≡ ltb (day_index y (day_of_year y m d)) (day_index y' (day_of_year y' m' d'))
  unfolding day_index
  day_less e f = rw (← e, ← f) (same_month (year_start (y - 1)) (up_to (row (kind y)) (m - 1)) d d' g.day_low g'.day_low)

pub later : (y m d y' m' d' : ℕ) → GoodDate y m d → GoodDate y' m' d' → earlier_date (ymd y m d) (ymd y' m' d') ≡ ltb (day_index y (day_of_year y m d)) (day_index y' (day_of_year y' m' d'))
later y m d y' m' d' g g' = go (eqb y y') (eqb m m') refl refl
  where
    a : ℕ
    a = day_index y (day_of_year y m d)

    b : ℕ
    b = day_index y' (day_of_year y' m' d')

    go : (s t : Bool) → eqb y y' ≡ s → eqb m m' ≡ t → cond s (cond t (ltb d d') (ltb m m')) (ltb y y') ≡ ltb a b
    go false t e f = by_order y y' a b (eqb-false y y' e) (year_less y m d y' m' d' g g') (year_less y' m' d' y m d g' g)
    go true false e f =
        by_order m m' a b (eqb-false m m' f) (month_less y m d y' m' d' g g' (eqb-true y y' e)) (month_less y' m' d' y m d g' g (sym (eqb-true y y' e)))
    go true true e f = day_less y m d y' m' d' g g' (eqb-true y y' e) (eqb-true m m' f)
