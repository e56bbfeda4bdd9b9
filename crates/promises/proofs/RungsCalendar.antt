-- Dates and day numbers, TAI seconds and UTC readings are refused by their rungs, by any table.
use mathlib.Core.Path.{◌≡◌, refl, sym, ap, ◌∙◌}
use mathlib.Core.Bool.{Bool, true, false, ◌&&◌}
use mathlib.Core.List.{List, [], ◌∷◌}
use Prim.Native.Nat.{ℕ, ◌+◌, ◌-◌, ◌≤◌}
use native.Mathlib.Omega.{arith}
use lib.Dec.{ltb, leb}
use lib.IntN.{ℤ, pos, negsuc, neg_ℤ, nat_abs, ◌+ℤ◌}
use lib.Signed.{le_z, lt_z}
use Rattle.base.specs.Outcome.{Outcome, done, need, and_then, given}
use Rattle.base.specs.Parts.{At, within, lowered_by}
use Rattle.base.proofs.Bools.{and_true, and_no}
use Rattle.base.proofs.Ladders.{need_yes}
use Rattle.base.proofs.Signed.{sum, apart, abs_is, neg_plus, neg_minus, le_yes, le_no, le_not, le_z_at, lt_z_at, lower_is, within_low, within_high}
use Rattle.scale.specs.Time.{Time}
use Rattle.calendar.specs.Gregorian.{is_date, is_ordinal, index_of_date, index_of_ordinal, index_of_day, ordinal_at, date_at, day_of_date, day_of_ordinal, date_of_day, ordinal_of_day, from_epoch, day_index, day_of_year}
use Rattle.calendar.proofs.Promises.{ordinal_at_done, date_at_done}
use Rattle.leap.specs.Table.{Table, covers, covers_second, day_length, day_holding, start, reading, reading_at, second_at}
use Rattle.leap.specs.Utc.{day_raise, second_raise, lifted_by, reading_of, second_of, utc, utc_of_second, second_of_utc}
use Rattle.leap.specs.declared.Reading.{Reading}
use Rattle.moment.specs.Moment.{moment}
use Rattle.moment.specs.declared.Moment.{Moment}
use Rattle.utc.specs.Reckoning.{time_of, read_by, moment_of, written_by}
use Rattle.utc.proofs.Laws.{time}
use Rattle.promises.specs.Rungs.{Rung, rung, all_hold}
use Rattle.promises.specs.RungsCalendar.{day_of_date_rungs, day_of_ordinal_rungs, is_day, date_of_day_rungs, ordinal_of_day_rungs, covered_day, past_cover, covered_second, index_of, has_second, utc_of_second_rungs, second_of_utc_rungs}
use Rattle.promises.specs.RungsBinary.{utc_day}
use Rattle.promises.proofs.Rungs.{verdict, judged, climb, under, step, need_both, then_need, then_then, verdict_given, given_climb, after}

-- ---- the calendar
pub day_of_date_rungs_lem : (y m d : ℕ) → verdict (day_of_date y m d) ≡ judged (day_of_date_rungs y m d)
unfolding index_of_date
day_of_date_rungs_lem y m d = verdict_given from_epoch (need (is_date y m d) 4 (done (day_index y (day_of_year y m d)))) ∙ step (is_date y m d) 4 _ _ (λ h. refl)

pub day_of_ordinal_rungs_lem : (y d : ℕ) → verdict (day_of_ordinal y d) ≡ judged (day_of_ordinal_rungs y d)
unfolding index_of_ordinal
day_of_ordinal_rungs_lem y d = verdict_given from_epoch (need (is_ordinal y d) 4 (done (day_index y d))) ∙ step (is_ordinal y d) 4 _ _ (λ h. refl)

-- a day that the calendar has
index_low : (z : ℤ) → is_day z ≡ true → nat_abs (z +ℤ pos 714779) ≤ 3652058
index_low z h =
    omega (arith, within_low (negsuc 714778) (pos 2937279) z h, within_high (negsuc 714778) (pos 2937279) z h, abs_is (z +ℤ pos 714779), sum z (pos 714779), apart (z +ℤ pos 714779), apart z)

pub date_of_day_rungs_lem : (z : ℤ) → verdict (date_of_day z) ≡ judged (date_of_day_rungs z)
unfolding index_of_day
date_of_day_rungs_lem z =
    after (index_of_day z) (rung 7 (is_day z) ∷ []) _ date_at (done tt) refl (λ h. ap verdict (date_at_done _ (index_low z (and_true (is_day z) true h).0)))

pub ordinal_of_day_rungs_lem : (z : ℤ) → verdict (ordinal_of_day z) ≡ judged (ordinal_of_day_rungs z)
unfolding index_of_day
ordinal_of_day_rungs_lem z =
    after (index_of_day z) (rung 7 (is_day z) ∷ []) _ ordinal_at (done tt) refl (λ h. ap verdict (ordinal_at_done _ (index_low z (and_true (is_day z) true h).0)))

-- ---- raised numbers
module _ (B : ℕ) (z : ℤ) where
  raised_at : le_z (neg_ℤ (pos B)) z ≡ true → At B (nat_abs (z +ℤ pos B)) z
  raised_at e =
      let h = le_yes (neg_ℤ (pos B)) z e in
      omega (arith, h, neg_plus (pos B), neg_minus (pos B), abs_is (z +ℤ pos B), sum z (pos B), apart (z +ℤ pos B))

  -- what stays negative lies below all that was lowered
  none_below : (a : ℕ) → le_z (neg_ℤ (pos B)) z ≡ false → le_z (lowered_by B a) z ≡ false
  none_below a e =
      let h = le_no (neg_ℤ (pos B)) z e in
      le_not (lowered_by B a) z (omega (arith, h, neg_plus (pos B), neg_minus (pos B), lower_is B a))

  -- so a raised number is from a on where the number itself is, and what is said of it besides matters once it was raised
  raised_from : (a : ℕ) (c d : Bool) → (At B (nat_abs (z +ℤ pos B)) z → c ≡ d) → le_z (neg_ℤ (pos B)) z && (leb a (nat_abs (z +ℤ pos B)) && c) ≡ le_z (lowered_by B a) z && d
  raised_from a c d f = go (le_z (neg_ℤ (pos B)) z) refl
    where
      go : (b : Bool) → le_z (neg_ℤ (pos B)) z ≡ b → b && (leb a (nat_abs (z +ℤ pos B)) && c) ≡ le_z (lowered_by B a) z && d
      go true e =
          let h = raised_at e in
          rw (f h, le_z_at B a (nat_abs (z +ℤ pos B)) (lowered_by B a) z (lower_is B a) h)
      go false e = sym (and_no d (none_below a e))

module _ (t : Table) where
  -- ---- the cover
  day_cover : (z : ℤ) → le_z (neg_ℤ (pos day_raise)) z && covers t (index_of z) ≡ covered_day t z
  unfolding covers within
  day_cover z =
      raised_from day_raise z t.first.day (leb (index_of z) t.last) (le_z z (from_epoch t.last))
      (λ h. sym (le_z_at day_raise (index_of z) t.last z (from_epoch t.last) h (lower_is day_raise t.last)))

  second_cover : (z : ℤ) → le_z (neg_ℤ (pos second_raise)) z && covers_second t (nat_abs (z +ℤ pos second_raise)) ≡ covered_second t z
  unfolding covers_second
  second_cover z =
      let past = start t (t.last + 1) in
      let s = nat_abs (z +ℤ pos second_raise) in
      raised_from second_raise z (start t t.first.day) (ltb s past) (lt_z z (past_cover t))
      (λ h. sym (lt_z_at second_raise s past z (past_cover t) h (lower_is second_raise past)))

  -- the reading of a covered second
  unfoldable pub reading_here : ℤ → Reading
  reading_here z = let s = nat_abs (z +ℤ pos second_raise) in reading t (day_holding t s) (s - start t (day_holding t s))

  reading_climbs : (z : ℤ) → reading_of t z ≡ climb (rung 5 (covered_second t z) ∷ []) (reading_here z)
  unfolding reading_of lifted_by reading_at reading_here
  reading_climbs z =
      then_need (le_z (neg_ℤ (pos second_raise)) z) 5 (nat_abs (z +ℤ pos second_raise)) (reading_at t)
      ∙ need_both (le_z (neg_ℤ (pos second_raise)) z) (covers_second t (nat_abs (z +ℤ pos second_raise))) 5 _
      ∙ ap (λ (b : Bool). need b 5 (done (reading_here z))) (second_cover z)

  pub utc_climbs : (z : ℤ) → utc_of_second t z ≡ climb (rung 5 (covered_second t z) ∷ []) (utc (reading_here z))
  unfolding utc_of_second
  utc_climbs z = ap (given utc) (reading_climbs z) ∙ given_climb utc (rung 5 (covered_second t z) ∷ []) (reading_here z)

  pub utc_of_second_rungs_lem : (z : ℤ) → verdict (utc_of_second t z) ≡ judged (utc_of_second_rungs t z)
  utc_of_second_rungs_lem z = ap verdict (utc_climbs z) ∙ step (covered_second t z) 5 _ _ (λ h. refl)

  -- a day's second: outside the cover 5, then 6 where the day has it not
  on_day : (n x : ℕ) → leb x 86400 ≡ true → verdict (second_of t n x) ≡ judged (rung 5 (covers t n) ∷ rung 6 (ltb x (day_length t n)) ∷ [])
  unfolding second_of second_at
  on_day n x h =
      verdict_given (lowered_by second_raise) (need (leb x 86400) 4 (need (covers t n) 5 (need (ltb x (day_length t n)) 6 (done _))))
      ∙ ap verdict (need_yes 4 _ h)
      ∙ step (covers t n) 5 _ _ (λ c. step (ltb x (day_length t n)) 6 _ _ (λ l. refl))

  day_second : (z : ℤ) (x : ℕ) → leb x 86400 ≡ true → verdict (and_then (lifted_by day_raise z) (λ n. second_of t n x)) ≡ judged (rung 5 (covered_day t z) ∷ rung 6 (has_second t z x) ∷ [])
  unfolding lifted_by
  day_second z x h =
      after (lifted_by day_raise z) (rung 5 (le_z (neg_ℤ (pos day_raise)) z) ∷ []) _ (λ n. second_of t n x) _ refl (λ b. on_day _ x h)
      ∙ need_both (le_z (neg_ℤ (pos day_raise)) z) (covers t (index_of z)) 5 _
      ∙ ap (λ (b : Bool). need b 5 (judged (rung 6 (has_second t z x) ∷ []))) (day_cover z)

  pub second_of_utc_rungs_lem : (d : ℤ) (x : ℕ) → verdict (second_of_utc t d x) ≡ judged (second_of_utc_rungs t d x)
  unfolding second_of_utc
  second_of_utc_rungs_lem d x = step (leb x 86400) 4 _ _ (day_second d x)

  -- ---- a moment that a code's fields name: judged by the table once the code has read it
  pub moment_rungs : (m : Moment) → leb m.second 86400 ≡ true → verdict (time_of t m) ≡ judged (rung 5 (covered_day t m.day) ∷ rung 6 (has_second t m.day m.second) ∷ [])
  unfolding time_of
  moment_rungs m h =
      verdict_given (λ z. time z m.ticks) (second_of_utc t m.day m.second) ∙ second_of_utc_rungs_lem m.day m.second ∙ need_yes 4 _ h

  pub read_rungs : (o : Outcome Moment) (rs : List Rung) (m : Moment) → o ≡ climb rs m → (all_hold rs ≡ true → leb m.second 86400 ≡ true)
      → verdict (read_by t o) ≡ under rs (judged (rung 5 (covered_day t m.day) ∷ rung 6 (has_second t m.day m.second) ∷ []))
  read_rungs o rs m e low = after o rs m (time_of t) _ e (λ h. moment_rungs m (low h))

  -- ---- the moment of a record, that a code writes: 5 where the table does not cover it
  unfoldable pub moment_here : Time → Moment
  moment_here r = let u = utc (reading_here r.sec) in moment u.day u.second r.ticks

  pub here_day : (r : Time) → (moment_here r).day ≡ utc_day t r.sec
  unfolding moment_here reading_here
  here_day r = refl

  moment_climbs : (r : Time) → moment_of t r ≡ climb (rung 5 (covered_second t r.sec) ∷ []) (moment_here r)
  unfolding moment_of moment_here
  moment_climbs r =
      ap (given (λ u. moment u.day u.second r.ticks)) (utc_climbs r.sec)
      ∙ given_climb (λ u. moment u.day u.second r.ticks) (rung 5 (covered_second t r.sec) ∷ []) (utc (reading_here r.sec))

  pub moment_here_lem : (r : Time) → covered_second t r.sec ≡ true → moment_of t r ≡ done (moment_here r)
  moment_here_lem r h = moment_climbs r ∙ need_yes 5 _ h

  pub written_rungs : {A B : Type 0} (code : Moment → Outcome A) (r : Time) (k : A → Outcome B) (m : Outcome (Unit {0})) → (covered_second t r.sec ≡ true → verdict (and_then (code (moment_here r)) k) ≡ m)
      → verdict (and_then (written_by t code r) k) ≡ need (covered_second t r.sec) 5 m
  written_rungs code r k m f =
      ap verdict (then_then (moment_of t r) code k)
      ∙ after (moment_of t r) (rung 5 (covered_second t r.sec) ∷ []) (moment_here r) (λ y. and_then (code y) k) m (moment_climbs r) (λ h. f (and_true (covered_second t r.sec) true h).0)
