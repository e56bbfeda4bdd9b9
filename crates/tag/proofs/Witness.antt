-- A good tag wants what some day and some second have; and a text that is no tag is refused 4.
use mathlib.Core.Path.{◌≡◌, refl, sym, ap, subst, ◌∙◌}
use mathlib.Core.Logic.{◌⊎◌, inl, inr, ⊎_elim}
use mathlib.Core.Bool.{Bool, true, false, cond, not, ◌&&◌}
use mathlib.Core.List.{List, [], ◌∷◌, ◌++◌}
use Prim.Native.Nat.{ℕ, ◌+◌, ◌≤◌}
use lib.Dec.{leb, ltb}
use lib.ListN.{length, take, drop}
use borrow.Author.Tests.{eq-eqb, le-leb}
use Rattle.std.specs.Option.{unwrap_or}
use Rattle.base.specs.Outcome.{Outcome, done, refused, need, and_then, given}
use Rattle.base.proofs.Ladders.{never, refused_is, need_yes}
use Rattle.base.proofs.Bools.{and_true}
use Rattle.octets.specs.Places.{decimal_of, all_good, digit_good}
use Rattle.clock.proofs.Laws.{shows}
use Rattle.calendar.specs.Gregorian.{day_index, day_of_year}
use Rattle.calendar.proofs.Dates.{good_date, good_ordinal, ordinal_on_index, date_of_date, ordinal_of_date, index_le}
use Rattle.clock.specs.Clock.{second_of_day}
use Rattle.moment.specs.Decimal.{ticks_of}
use Rattle.seek.specs.declared.Calendar.{Calendar}
use Rattle.seek.specs.declared.Wants.{Wants}
use Rattle.seek.specs.Naming.{may, day_fits, clock_fits}
use Rattle.shape.specs.Shapes.{fits}
use Rattle.tag.specs.Forms.{Place, Form, Forms, days, months, hours, minutes, find}
use Rattle.tag.specs.Tags.{until, is_free, is_lowest, midnight, calendar_as, clock_as, unzoned, time_in, daytime, fraction_as, tag, alone, alone_by, any_day, joined, formed, good_day, good_day_by, good_clock, good_tag, want_of}
use Rattle.tag.proofs.Scans.{find_each}
use Rattle.tag.proofs.Completed.{Parts, day, clock, joint}
use Rattle.std.specs.Prelude.{Option, Some, None}

-- ---- a day
abbrev pub SomeDay : Calendar → Type 0
SomeDay c = (n : ℕ) × (n ≤ 3652058) × (day_fits c n ≡ true)

may_else : (w : Option ℕ) (d : ℕ) → may w (unwrap_or w d) ≡ true
may_else None d = refl
may_else (Some v) d = eq-eqb v v refl

-- what is wanted of the day of the year is not wanted of the month and the day
abbrev Either : Calendar → Type 0
Either c = (c.ordinal ≡ None) ⊎ ((c.month ≡ None) × (c.day ≡ None))

dated_day : (c : Calendar) → c.ordinal ≡ None → good_day_by c None ≡ true → SomeDay c
unfolding day_fits
dated_day c i e =
    let y = unwrap_or c.year 2000 in
    let m = unwrap_or c.month 1 in
    let d = unwrap_or c.day 1 in
    let g = good_date y m d e in
    let o = ordinal_of_date y m d g in
    let n = day_index y (day_of_year y m d) in
    let a = ordinal_on_index y (day_of_year y m d) o in
    (n, index_le y (day_of_year y m d) o, rw (a, i, date_of_date y m d g, may_else c.year 2000, may_else c.month 1, may_else c.day 1))

ordinal_day_lem : (c : Calendar) (o : ℕ) → c.ordinal ≡ Some o → c.month ≡ None → c.day ≡ None → good_day_by c (Some o) ≡ true → SomeDay c
unfolding day_fits
ordinal_day_lem c o i p q e =
    let y = unwrap_or c.year 2000 in
    let g = good_ordinal y o e in
    (day_index y o, index_le y o g, rw (ordinal_on_index y o g, i, p, q, may_else c.year 2000, eq-eqb o o refl))

some_day : (c : Calendar) → Either c → good_day c ≡ true → SomeDay c
unfolding good_day
some_day c h e = go c.ordinal refl e
  where
    go : (w : Option ℕ) → c.ordinal ≡ w → good_day_by c w ≡ true → SomeDay c
    go None i e = dated_day c i e
    go (Some o) i e =
        ⊎_elim (λ (f : c.ordinal ≡ None). dated_day c f (subst (λ (w : Option ℕ). good_day_by c w ≡ true) (sym i ∙ f) e))
        (λ (f : (c.month ≡ None) × (c.day ≡ None)). ordinal_day_lem c o i f.0 f.1 e) h

either : (s : List ℕ) (f : Form) → find (days ++ months) s ≡ done f → Either (calendar_as s f)
unfolding days months calendar_as
either s f e =
    find_each (λ g. Either (calendar_as s g)) (days ++ months) s f e
    (λ i. inl refl, (λ i. inl refl, (λ i. inl refl, (λ i. inr (refl, refl), (λ i. inr (refl, refl), (λ i. inl refl, (λ i. inl refl, (λ i. inl refl, tt))))))))

either_days : (s : List ℕ) (f : Form) → find days s ≡ done f → Either (calendar_as s f)
unfolding days calendar_as
either_days s f e =
    find_each (λ g. Either (calendar_as s g)) days s f e
    (λ i. inl refl, (λ i. inl refl, (λ i. inl refl, (λ i. inr (refl, refl), (λ i. inr (refl, refl), tt)))))

pub day_exists : (s : List ℕ) (t : Wants) → Parts s t → good_tag t ≡ true → SomeDay t.calendar
day_exists s t (day f e i) g = some_day t.calendar (rw (← i) (either s f e)) (and_true _ _ g).0
day_exists s t (clock k e i) g = some_day t.calendar (rw (← i) (inl refl)) (and_true _ _ g).0
day_exists s t (joint c r f k j e h i) g = some_day t.calendar (rw (← i) (either_days c f e)) (and_true _ _ g).0

-- ---- a second
pub second_exists : (t : Wants) → good_tag t ≡ true → (x : ℕ) × (x ≤ 86400) × (clock_fits t.clock x ≡ true)
unfolding good_clock clock_fits
second_exists t g =
    let k = t.clock in
    let h = unwrap_or k.hour 23 in
    let m = unwrap_or k.minute 59 in
    let s = unwrap_or k.second 0 in
    let w = shows h m s (and_true (good_day t.calendar) _ g).1 in
    (second_of_day h m s, w.low, rw (w.hour, w.minute, w.second, may_else k.hour 23, may_else k.minute 59, may_else k.second 0))

-- ---- refused 4, and nothing else
abbrev pub Only4 : {A : Type 0} → Outcome A → Type 0
Only4 o = (n : ℕ) → o ≡ refused n → n ≡ 4

four_done : {A : Type 0} (a : A) → Only4 (done a)
four_done a n e = never n a (sym e)

four_need : {A : Type 0} (b : Bool) (o : Outcome A) → Only4 o → Only4 (need b 4 o)
four_need true o h n e = h n e
four_need false o h n e = sym (refused_is 4 n e)

four_then : {A B : Type 0} (o : Outcome A) (k : A → Outcome B) → Only4 o → ((a : A) → Only4 (k a)) → Only4 (and_then o k)
four_then (done a) k h i n e = i a n e
four_then (refused m) k h i n e = h n (ap refused (refused_is m n e))

four_given : {A B : Type 0} (f : A → B) (o : Outcome A) → Only4 o → Only4 (given f o)
four_given f (done a) h n e = never n (f a) (sym e)
four_given f (refused m) h n e = h n (ap refused (refused_is m n e))

find_4 : (fs : Forms) (p : List ℕ) → Only4 (find fs p)
find_4 [] p n e = sym (refused_is 4 n e)
find_4 (f ∷ fs) p n e = go (fits f.shape p) (find_4 fs p) n e
  where
    go : (b : Bool) → Only4 (find fs p) → Only4 (cond b (done f) (find fs p))
    go true h n e = four_done f n e
    go false h n e = h n e

fraction_4 : (p : Place) (s : List ℕ) → Only4 (fraction_as p s)
fraction_4 p [] = four_need (not (is_free p)) _ (four_done 0)
fraction_4 p (b ∷ s) = four_need (not (is_lowest p) && (leb 1 (length s) && (leb (length s) 12 && all_good digit_good s (length s)))) _ (four_done (ticks_of (length s) (decimal_of s (length s))))

time_4 : (fs : Forms) (s : List ℕ) → Only4 (time_in fs s)
unfolding time_in unzoned
time_4 fs s =
    let u = take (until 90 s) s in
    let p = until 46 u in
    four_need (leb (length s) (until 90 s + 1)) _
    (four_then (find fs (take p u)) _ (find_4 fs (take p u)) (λ f. four_given (daytime (clock_as (take p u) f)) (fraction_as f.third (drop p u)) (fraction_4 f.third (drop p u))))

alone_4 : (s : List ℕ) → Only4 (alone s)
unfolding alone
alone_4 s = go (find (days ++ months) s)
  where
    go : (o : Outcome Form) → Only4 (alone_by s o)
    go (done f) = four_done (tag (calendar_as s f) midnight)
    go (refused n) = four_given (tag any_day) (time_in (hours ++ minutes) s) (time_4 (hours ++ minutes) s)

pub formed_4 : (s : List ℕ) → Only4 (formed s)
unfolding formed joined
formed_4 s = go (ltb (until 84 s) (length s))
  where
    go : (b : Bool) → Only4 (cond b (joined (take (until 84 s) s) (drop (until 84 s + 1) s)) (alone s))
    go true =
        let c = take (until 84 s) s in
        let r = drop (until 84 s + 1) s in
        four_then (find days c) _ (find_4 days c) (λ f. four_given (tag (calendar_as c f)) (time_in hours r) (time_4 hours r))
    go false = alone_4 s

pub tag_4 : (s : List ℕ) (n : ℕ) → 1 ≤ length s → want_of s ≡ refused n → n ≡ 4
unfolding want_of
tag_4 s n l e =
    four_then (formed s) _ (formed_4 s) (λ t. four_need (good_tag t) _ (four_done t)) n (sym (need_yes 1 _ (le-leb 1 (length s) l)) ∙ e)
