-- What spans two calls of the calendar, as theorems about the definitions that the contracts cite. `X-back` says that what the call X answers, its inverse takes back.
use Prim.Native.Nat.{ℕ, ◌+◌, ◌-◌, ◌≤◌, ◌<◌}
use mathlib.Core.Path.{◌≡◌, refl, sym, ap, ◌∙◌}
use mathlib.Core.Bool.{true}
use native.Mathlib.Omega.{arith}
use lib.Dec.{leb, ltb}
use lib.IntN.{ℤ, pos, negsuc, ◌+ℤ◌}
use lib.Signed.{lt_z}
use borrow.Author.Tests.{le-leb, leb-true}
use Rattle.base.specs.Outcome.{done, given}
use Rattle.base.proofs.Ladders.{need_yes, need_done, given_done, done_is}
use Rattle.base.proofs.Signed.{same, sum, lt_yes}
use Rattle.calendar.specs.declared.Date.{Date}
use Rattle.calendar.specs.declared.Ordinal.{Ordinal}
use Rattle.calendar.specs.Gregorian.{kind, year_start, row, month_length, is_date, is_ordinal, day_index, day_of_year, ordinal_on, date_in, index_of_date, index_of_ordinal, ordinal_at, date_at, from_epoch, day_of_date, day_of_ordinal, date_of_day, ordinal_of_day, next_date, earlier_date}
use Rattle.calendar.proofs.Years.{kind_lt}
use Rattle.calendar.proofs.Rows.{length_in}
use Rattle.calendar.proofs.Dates.{GoodDate, GoodOrdinal, good_date, good_ordinal, is_date_lem, is_ordinal_lem, index_le, ordinal_on_index, index_on_ordinal, good_on, date_of_date, ordinal_of_date, day_of_date_in, good_in}
use Rattle.calendar.proofs.Numbers.{day_back, back_day, number_at_lem}
use Rattle.calendar.proofs.Order.{After, after, later}

-- ---- what an index that is given tells
pub ordinal_told : (y d n : ℕ) → index_of_ordinal y d ≡ done n → GoodOrdinal y d × (day_index y d ≡ n)
unfolding index_of_ordinal
ordinal_told y d n h =
    let (e, f) = need_done (is_ordinal y d) 4 (done (day_index y d)) n h in
    (good_ordinal y d e, done_is (day_index y d) n f)

pub date_told : (y m d n : ℕ) → index_of_date y m d ≡ done n → GoodDate y m d × (day_index y (day_of_year y m d) ≡ n)
unfolding index_of_date
date_told y m d n h =
    let (e, f) = need_done (is_date y m d) 4 (done (day_index y (day_of_year y m d))) n h in
    (good_date y m d e, done_is (day_index y (day_of_year y m d)) n f)

pub index_of_good : (y m d : ℕ) → GoodDate y m d → index_of_date y m d ≡ done (day_index y (day_of_year y m d))
unfolding index_of_date
index_of_good y m d g = need_yes 4 _ (is_date_lem y m d g)

-- ---- every index up to the last has its day
pub ordinal_at_done : (n : ℕ) → n ≤ 3652058 → ordinal_at n ≡ done (ordinal_on n)
unfolding ordinal_at
ordinal_at_done n h = need_yes 7 _ (le-leb n 3652058 h)

pub date_at_done : (n : ℕ) → n ≤ 3652058 → date_at n ≡ done (date_in (ordinal_on n))
date_at_done n h = ap (given date_in) (ordinal_at_done n h)

-- ---- "Date to day and back are inverse over all these days": on indices
pub index_of_ordinal_back : (o : Ordinal) (n : ℕ) → index_of_ordinal o.year o.day ≡ done n → (n ≤ 3652058) × (ordinal_at n ≡ done o)
index_of_ordinal_back o n h =
    let (g, e) = ordinal_told o.year o.day n h in
    let l : n ≤ 3652058 = omega (arith, index_le o.year o.day g) in
    (l, ordinal_at_done n l ∙ ap (λ (k : ℕ). done (ordinal_on k)) (sym e) ∙ ap done (ordinal_on_index o.year o.day g))

pub ordinal_at_back : (n : ℕ) (o : Ordinal) → ordinal_at n ≡ done o → index_of_ordinal o.year o.day ≡ done n
unfolding ordinal_at index_of_ordinal
ordinal_at_back n o h =
    let (e, f) = need_done (leb n 3652058) 7 (done (ordinal_on n)) o h in
    let i : ordinal_on n ≡ o = done_is (ordinal_on n) o f in
    rw (← i) (need_yes 4 _ (is_ordinal_lem _ _ (good_on n (leb-true n 3652058 e))) ∙ ap done (index_on_ordinal n))

pub good_at : (n : ℕ) (o : Ordinal) → ordinal_at n ≡ done o → is_ordinal o.year o.day ≡ true
good_at n o h = is_ordinal_lem _ _ (ordinal_told _ _ _ (ordinal_at_back n o h)).0

-- a date has the index of its day of the year
by_ordinal_lem : (y m d : ℕ) → GoodDate y m d → index_of_date y m d ≡ index_of_ordinal y (day_of_year y m d)
unfolding index_of_ordinal
by_ordinal_lem y m d g = index_of_good y m d g ∙ sym (need_yes 4 _ (is_ordinal_lem y (day_of_year y m d) (ordinal_of_date y m d g)))

pub index_of_date_back : (t : Date) (n : ℕ) → index_of_date t.year t.month t.day ≡ done n → (n ≤ 3652058) × (date_at n ≡ done t)
index_of_date_back t n h =
    let g = (date_told t.year t.month t.day n h).0 in
    let (l, e) = index_of_ordinal_back (record { year = t.year; day = day_of_year t.year t.month t.day }) n (sym (by_ordinal_lem t.year t.month t.day g) ∙ h) in
    (l, ap (given date_in) e ∙ ap done (date_of_date t.year t.month t.day g))

pub date_at_back : (n : ℕ) (t : Date) → date_at n ≡ done t → index_of_date t.year t.month t.day ≡ done n
unfolding date_in
date_at_back n t h =
    let (o, (p, q)) = given_done date_in (ordinal_at n) t h in
    let r = ordinal_at_back n o p in
    let g = (ordinal_told o.year o.day n r).0 in
    ap (λ (s : Date). index_of_date s.year s.month s.day) (sym q)
    ∙ by_ordinal_lem o.year (date_in o).month (date_in o).day (good_in o g)
    ∙ ap (index_of_ordinal o.year) (day_of_date_in o g)
    ∙ r

-- ---- and on day numbers
pub day_of_ordinal_back : (o : Ordinal) (z : ℤ) → day_of_ordinal o.year o.day ≡ done z → ordinal_of_day z ≡ done o
day_of_ordinal_back = day_back (λ (o : Ordinal). index_of_ordinal o.year o.day) ordinal_at index_of_ordinal_back

pub ordinal_of_day_back : (z : ℤ) (o : Ordinal) → ordinal_of_day z ≡ done o → day_of_ordinal o.year o.day ≡ done z
ordinal_of_day_back = back_day (λ (o : Ordinal). index_of_ordinal o.year o.day) ordinal_at ordinal_at_back

pub day_of_date_back : (t : Date) (z : ℤ) → day_of_date t.year t.month t.day ≡ done z → date_of_day z ≡ done t
day_of_date_back = day_back (λ (t : Date). index_of_date t.year t.month t.day) date_at index_of_date_back

pub date_of_day_back : (z : ℤ) (t : Date) → date_of_day z ≡ done t → day_of_date t.year t.month t.day ≡ done z
date_of_day_back = back_day (λ (t : Date). index_of_date t.year t.month t.day) date_at date_at_back

-- ---- the fields of a day that is given are in their ranges
pub ordinal_fields_lem : (n : ℕ) (o : Ordinal) → ordinal_at n ≡ done o → (1 ≤ o.year) × (o.year ≤ 9999) × (1 ≤ o.day) × (o.day ≤ 366)
ordinal_fields_lem n o h =
    let g = (ordinal_told o.year o.day n (ordinal_at_back n o h)).0 in
    (g.year_low, g.year_high, g.day_low, omega (arith, kind_lt o.year))

pub date_fields_lem : (n : ℕ) (t : Date) → date_at n ≡ done t → (1 ≤ t.year) × (t.year ≤ 9999) × (1 ≤ t.month) × (t.month ≤ 12) × (1 ≤ t.day) × (t.day ≤ 31)
date_fields_lem n t h =
    let g = (date_told t.year t.month t.day n (date_at_back n t h)).0 in
    (g.year_low, g.year_high, g.month_low, g.month_high, g.day_low, omega (arith, length_in (kind t.year) (kind_lt t.year) (t.month - 1) (omega arith)))

-- ---- the day after a date has the next index, and the next day number
pub next_index : (t : Date) (n : ℕ) → index_of_date t.year t.month t.day ≡ done n → n < 3652058 → index_of_date (next_date t).year (next_date t).month (next_date t).day ≡ done (n + 1)
next_index t n h l =
    let (g, e) = date_told t.year t.month t.day n h in
    let a : After (day_index t.year (day_of_year t.year t.month t.day)) (next_date t) = after t.year t.month t.day g (omega arith) in
    index_of_good _ _ _ a.good ∙ ap done (a.next ∙ ap (λ (k : ℕ). k + 1) e)

pub next_day : (t : Date) (z : ℤ) → day_of_date t.year t.month t.day ≡ done z → lt_z z (pos 2937279) ≡ true → day_of_date (next_date t).year (next_date t).month (next_date t).day ≡ done (z +ℤ pos 1)
next_day t z h l =
    let (n, (p, q)) = given_done from_epoch (index_of_date t.year t.month t.day) z h in
    let u : n < 3652058 = omega (arith, rw (← q) at (lt_yes z (pos 2937279) l), number_at_lem n) in
    ap (given from_epoch) (next_index t n p u)
    ∙ ap done (same (from_epoch (n + 1)) (from_epoch n +ℤ pos 1) (omega (arith, number_at_lem (n + 1), number_at_lem n, sum (from_epoch n) (pos 1))) ∙ ap (λ (x : ℤ). x +ℤ pos 1) q)

-- a date that is earlier, by year, month and day, has the smaller index
pub earlier_is_less : (s t : Date) (a b : ℕ) → index_of_date s.year s.month s.day ≡ done a → index_of_date t.year t.month t.day ≡ done b → earlier_date s t ≡ ltb a b
earlier_is_less s t a b p q =
    let (g, e) = date_told s.year s.month s.day a p in
    let (h, f) = date_told t.year t.month t.day b q in
    later s.year s.month s.day t.year t.month t.day g h ∙ (λ i. ltb (e i) (f i))

-- ---- document 01's three days
pub first_day_lem : day_of_date 1 1 1 ≡ done (negsuc 714778)
unfolding index_of_date is_date month_length day_index year_start kind row
first_day_lem = refl

pub epoch_day : day_of_date 1958 1 1 ≡ done (pos 0)
unfolding index_of_date is_date month_length day_index year_start kind row
epoch_day = refl

pub last_day_lem : day_of_date 9999 12 31 ≡ done (pos 2937279)
unfolding index_of_date is_date month_length day_index year_start kind row
last_day_lem = refl
