-- A tag is good if some day and some second have what it wants.
use mathlib.Core.Path.{◌≡◌, refl, sym, subst}
use mathlib.Core.Bool.{Bool, true, false, ◌&&◌, ◌||◌, false≢true}
use Prim.Native.Nat.{ℕ, ◌-◌, ◌*◌, ◌/◌, ◌%◌, ◌≤◌, ◌<◌}
use native.Mathlib.Omega.{arith}
use lib.Dec.{eqb, ltb, leb}
use lib.ListN.{get_or}
use borrow.Author.Tests.{eqb-true, leb-true}
use Rattle.std.specs.Option.{unwrap_or}
use Rattle.base.proofs.Bools.{and_true}
use Rattle.base.proofs.Ladders.{need_done}
use Rattle.calendar.specs.Gregorian.{kind, row, ordinal_on, date_in}
use Rattle.calendar.proofs.Years.{kind_lt}
use Rattle.calendar.proofs.Dates.{GoodOrdinal, GoodDate, good_on, good_in, is_date_lem, is_ordinal_lem}
use Rattle.clock.specs.Clock.{clock_ok, minute_of}
use Rattle.clock.proofs.Laws.{shown_back}
use Rattle.shape.proofs.Tests.{down_to, down_at}
use Rattle.seek.specs.declared.Calendar.{Calendar}
use Rattle.seek.specs.declared.Clock.{Clock}
use Rattle.seek.specs.Naming.{may, day_fits, clock_fits}
use Rattle.tag.specs.Tags.{good_day_by, good_day, good_clock}
use Rattle.std.specs.Prelude.{Option, Some, None}

-- what is wanted of a field is what it has, or nothing
either_way : (P : ℕ → Type 0) (w : Option ℕ) (v d : ℕ) → may w v ≡ true → P v → P d → P (unwrap_or w d)
either_way P None v d e p q = q
either_way P (Some a) v d e p q = subst P (sym (eqb-true a v e)) p

-- ---- days
-- a leap year has every day that any year has, and January every day that any month has
longer : down_to 2 (λ k. down_to 12 (λ i. leb (get_or (row k) i 0) (get_or (row 1) i 0) && leb (get_or (row k) i 0) (get_or (row k) 0 0))) ≡ true
unfolding row
longer = refl

row_in : (k i : ℕ) → k < 2 → i < 12 → (get_or (row k) i 0 ≤ get_or (row 1) i 0) × (get_or (row k) i 0 ≤ get_or (row k) 0 0)
row_in k i h l =
    let e = down_at 12 (λ i. leb (get_or (row k) i 0) (get_or (row 1) i 0) && leb (get_or (row k) i 0) (get_or (row k) 0 0)) (down_at 2 (λ k. down_to 12 (λ i. leb (get_or (row k) i 0) (get_or (row 1) i 0) && leb (get_or (row k) i 0) (get_or (row k) 0 0))) longer k h) i l in
    let (a, b) = and_true _ _ e in
    (leb-true _ _ a, leb-true _ _ b)

module _ {y m d : ℕ} (g : GoodDate y m d) where
  leap_date : GoodDate 2000 m d
  unfolding kind
  leap_date =
      record {
        year_low = omega arith;
        year_high = omega arith;
        month_low = g.month_low;
        month_high = g.month_high;
        day_low = g.day_low;
        day_high = omega (arith, g.day_high, row_in (kind y) (m - 1) (kind_lt y) (omega (arith, g.month_low, g.month_high)));
      }

  in_january : GoodDate y 1 d
  in_january =
      record {
        year_low = g.year_low;
        year_high = g.year_high;
        month_low = omega arith;
        month_high = omega arith;
        day_low = g.day_low;
        day_high = omega (arith, g.day_high, row_in (kind y) (m - 1) (kind_lt y) (omega (arith, g.month_low, g.month_high)));
      }

  on_the_first : GoodDate y m 1
  on_the_first =
      record {
        year_low = g.year_low;
        year_high = g.year_high;
        month_low = g.month_low;
        month_high = g.month_high;
        day_low = omega arith;
        day_high = omega (arith, g.day_low, g.day_high);
      }

leap_ordinal : {y d : ℕ} → GoodOrdinal y d → GoodOrdinal 2000 d
unfolding kind
leap_ordinal {y} {d} g =
    record { year_low = omega arith; year_high = omega arith; day_low = g.day_low; day_high = omega (arith, g.day_high, kind_lt y) }

-- the fields of a date that fits
day_may : (c : Calendar) (n : ℕ) → day_fits c n ≡ true → (may c.year (ordinal_on n).year ≡ true) × (may c.month (date_in (ordinal_on n)).month ≡ true) × (may c.day (date_in (ordinal_on n)).day ≡ true) × (may c.ordinal (ordinal_on n).day ≡ true)
unfolding day_fits
day_may c n e =
    let (a, r) = and_true (may c.year (ordinal_on n).year) _ e in
    let (b, s) = and_true (may c.month (date_in (ordinal_on n)).month) _ r in
    let (d, f) = and_true (may c.day (date_in (ordinal_on n)).day) _ s in
    (a, b, d, f)

pub good_day_lem : (c : Calendar) (n : ℕ) → n ≤ 3652058 → day_fits c n ≡ true → good_day c ≡ true
unfolding good_day
good_day_lem c n h e = go c.ordinal (day_may c n e).3
  where
    own : GoodOrdinal (ordinal_on n).year (ordinal_on n).day
    own = good_on n h

    go : (w : Option ℕ) → may w (ordinal_on n).day ≡ true → good_day_by c w ≡ true
    go None f =
        let t = date_in (ordinal_on n) in
        let Y = unwrap_or c.year 2000 in
        let M = unwrap_or c.month 1 in
        let (a, b, d, _) = day_may c n e in
        let g = good_in (ordinal_on n) own in
        let p = either_way (λ y. GoodDate y t.month t.day) c.year (ordinal_on n).year 2000 a g (leap_date g) in
        let q = either_way (λ m. GoodDate Y m t.day) c.month t.month 1 b p (in_january p) in
        is_date_lem Y M (unwrap_or c.day 1) (either_way (λ d. GoodDate Y M d) c.day t.day 1 d q (on_the_first q))
    go (Some o) f =
        let g : GoodOrdinal (ordinal_on n).year o = subst (GoodOrdinal (ordinal_on n).year) (sym (eqb-true o (ordinal_on n).day f)) own in
        is_ordinal_lem (unwrap_or c.year 2000) o (either_way (λ y. GoodOrdinal y o) c.year (ordinal_on n).year 2000 (day_may c n e).0 g (leap_ordinal g))

-- ---- clocks
ok_hour : (h m s : ℕ) → clock_ok h m s ≡ true → clock_ok 23 m s ≡ true
ok_hour h m s e = go (ltb h 24) (ltb m 60) (ltb s 60) (eqb s 60) (eqb h 23) (eqb m 59) e
  where
    go : (a b c d e f : Bool) → a && (b && (c || (d && (e && f)))) ≡ true → b && (c || (d && f)) ≡ true
    go true true true d e f h = refl
    go true true false true true f h = h
    go true true false true false f h = absurd (false≢true h)
    go true true false false e f h = h
    go true false c d e f h = h
    go false b c d e f h = absurd (false≢true h)

ok_minute : (h m s : ℕ) → clock_ok h m s ≡ true → clock_ok h 59 s ≡ true
ok_minute h m s e = go (ltb h 24) (ltb m 60) (ltb s 60) (eqb s 60) (eqb h 23) (eqb m 59) e
  where
    go : (a b c d e f : Bool) → a && (b && (c || (d && (e && f)))) ≡ true → a && (c || (d && (e && true))) ≡ true
    go true true true d e f h = refl
    go true true false true true f h = refl
    go true true false true false f h = h
    go true true false false e f h = h
    go true false c d e f h = absurd (false≢true h)
    go false b c d e f h = h

ok_second : (h m s : ℕ) → clock_ok h m s ≡ true → clock_ok h m 0 ≡ true
ok_second h m s e = go (ltb h 24) (ltb m 60) (ltb s 60 || (eqb s 60 && (eqb h 23 && eqb m 59))) e
  where
    go : (a b c : Bool) → a && (b && c) ≡ true → a && (b && true) ≡ true
    go true true c h = refl
    go true false c h = h
    go false b c h = h

pub good_clock_lem : (k : Clock) (x : ℕ) → x ≤ 86400 → clock_fits k x ≡ true → good_clock k ≡ true
unfolding clock_fits good_clock
good_clock_lem k x h e =
    let (a, r) = and_true _ _ e in
    let (b, c) = and_true _ _ r in
    let H = minute_of x / 60 in
    let M = minute_of x % 60 in
    let S = x - minute_of x * 60 in
    let ok = (need_done (clock_ok H M S) 4 _ x (shown_back x h)).0 in
    let p = either_way (λ i. clock_ok i M S ≡ true) k.hour H 23 a ok (ok_hour H M S ok) in
    let q = either_way (λ i. clock_ok (unwrap_or k.hour 23) i S ≡ true) k.minute M 59 b p (ok_minute (unwrap_or k.hour 23) M S p) in
    either_way (λ i. clock_ok (unwrap_or k.hour 23) (unwrap_or k.minute 59) i ≡ true) k.second S 0 c q (ok_second (unwrap_or k.hour 23) (unwrap_or k.minute 59) S q)
