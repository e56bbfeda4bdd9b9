-- The built-in table's rule, computed once over the whole table and carried to each row by one law; and what it says of the days.
use Prim.Native.Nat.{ℕ, zero, suc, ◌+◌, ◌-◌, ◌*◌, ◌<◌, ◌≤◌}
use mathlib.Core.Path.{◌≡◌, refl, sym, ap, ◌∙◌}
use mathlib.Core.Bool.{Bool, true, false}
use mathlib.Core.List.{List, [], ◌∷◌, map}
use mathlib.Core.Logic.{◌⊎◌, inl, inr, ⊎_elim}
use native.Mathlib.Nat.{le_of_suc-le-suc, not-suc-le-zero, eq-or-lt_of_le}
use native.Mathlib.Numerals.{add-one}
use native.Mathlib.Omega.{arith}
use lib.Dec.{eqb}
use lib.ListN.{length, get_or}
use lib.IntN.{ℤ, pos}
use borrow.Author.Tests.{eqb-true}
use Rattle.base.specs.Parts.{within}
use Rattle.base.specs.Seats.{seat_of}
use Rattle.base.specs.Outcome.{done, refused, given}
use Rattle.base.proofs.Bools.{and_true, cond_yes, cond_no}
use Rattle.calendar.specs.Gregorian.{kind, year_start, years_to, row, month_length, is_date, day_index, ordinal_on, date_in, index_of_date, ordinal_at, date_at}
use Rattle.leap.specs.declared.Row.{Row}
use Rattle.leap.specs.declared.Utc.{Utc}
use Rattle.leap.specs.Table.{offset, day_length}
use Rattle.leap.specs.Builtin.{published, no_leap, row_of, leaps, no_row, builtin, first_second, last_second}
use Rattle.leap.specs.Utc.{utc, utc_of_second}
use Rattle.leap.specs.Rule.{dated, row_on, on_half_year, follows, neighbours}
use Rattle.leap.specs.Inner.{row_at, end_at, Small, OnDay, InSecond}
use Rattle.leap.proofs.Builtin.{builtin_good, later_rows, row_is, end_small}
use Rattle.leap.proofs.Rows.{Ends, end_next, row_ends, offset_in, length_in, length_end}
use Rattle.leap.proofs.Cover.{reading_in, reading_out}

-- the rows are those of the dates
pub rows_dated : map row_on dated ≡ map done leaps
unfolding index_of_date is_date month_length day_index year_start kind row
rows_dated = refl

neighbours_at : (f : Row → Row → Bool) (rs : List Row) → neighbours f rs ≡ true → (i : ℕ) → suc i < length rs → f (get_or rs i no_row) (get_or rs (suc i) no_row) ≡ true
neighbours_at f [] e i h = absurd (not-suc-le-zero h)
neighbours_at f (r ∷ []) e i h = absurd (not-suc-le-zero (le_of_suc-le-suc h))
neighbours_at f (r ∷ r' ∷ rs) e zero h = (and_true (f r r') (neighbours f (r' ∷ rs)) e).0
neighbours_at f (r ∷ r' ∷ rs) e (suc i) h = neighbours_at f (r' ∷ rs) (and_true (f r r') (neighbours f (r' ∷ rs)) e).1 i (le_of_suc-le-suc h)

ruled : neighbours follows leaps ≡ true
unfolding ordinal_at ordinal_on date_in years_to year_start kind row
ruled = refl

pub rule_at : (i : ℕ) → suc i < 28 → follows (row_at builtin i) (row_at builtin (suc i)) ≡ true
unfolding builtin
rule_at i h = neighbours_at follows leaps ruled i h

-- a row's offset is one less than that of the row after it
pub adds_one : (i : ℕ) → suc i < 28 → (row_at builtin (suc i)).offset ≡ (row_at builtin i).offset + 1
adds_one i h =
    let r = row_at builtin i in
    let r' = row_at builtin (suc i) in
    eqb-true _ _ (and_true (eqb r'.offset (r.offset + 1)) (on_half_year (date_at r'.day)) (rule_at i h)).0

-- so that row i's is i + 74
first_offset : (row_at builtin 0).offset ≡ 74
unfolding builtin
first_offset = refl

pub offset_at : (i : ℕ) → i < 28 → i + 74 ≡ (row_at builtin i).offset
offset_at zero h = sym first_offset
offset_at (suc i) h = omega (arith, offset_at i (omega arith), adds_one i h)

-- what ends a row, the last aside, is the next row
ended : (i : ℕ) → suc i < 28 → end_at builtin i ≡ row_at builtin (suc i)
ended i h = end_next builtin i (omega (arith, later_rows)) ∙ ap (row_at builtin) (add-one i)

-- what is read of it
pub end_read : (i : ℕ) → suc i < 28 → (row_of (get_or published (i + 1) no_leap) ≡ end_at builtin i) × Small (row_of (get_or published (i + 1) no_leap))
end_read i h =
    let e : row_of (get_or published (i + 1) no_leap) ≡ end_at builtin i = sym (row_is (i + 1) (omega arith)) ∙ sym (end_next builtin i (omega (arith, later_rows))) in
    (e, rw e (end_small i (omega arith)))

-- what ends the last has its offset
last_offset : (end_at builtin 27).offset ≡ 101
unfolding builtin
last_offset = refl

-- so that no offset falls where a row ends
end_offset : (i : ℕ) → i < 28 → (row_at builtin i).offset ≤ (end_at builtin i).offset
end_offset i h =
    ⊎_elim
    (λ (q : suc i ≡ 28). let e : i ≡ 27 = omega arith in omega (arith, offset_at i h, rw (← e) at last_offset))
    (λ (q : suc i < 28). omega (arith, adds_one i q, ap (λ (r : Row). r.offset) (ended i q)))
    (eq-or-lt_of_le h)

-- the row in force when all rows whose day has come have begun is in force on the day
pub on_day : (d i : ℕ) → InSecond builtin (d * 86400 + 101) i → OnDay builtin d i
on_day d i w = record { row = w.row; low = omega (arith, w.low); high = omega (arith, w.high, (end_small _ w.row).offset_high) }

-- a day on which row i is in force: its offset, its seconds, and that these are 86,400 or more
module _ (d i : ℕ) (w : OnDay builtin d i) where
  inside : i ≤ length builtin.later
  inside = omega (arith, later_rows, w.row)

  pub offset_on : offset builtin d ≡ (row_at builtin i).offset
  offset_on = offset_in builtin builtin_good i inside d w.low w.high

  pub length_on : d + 1 < (end_at builtin i).day → day_length builtin d ≡ 86400
  length_on h = length_in builtin builtin_good i inside d w.low h

  pub last_length : d + 1 ≡ (end_at builtin i).day → day_length builtin d ≡ 86400 + (end_at builtin i).offset - (row_at builtin i).offset
  last_length e = length_end builtin builtin_good i inside d w.low e

  -- one of the two
  which : (day_length builtin d ≡ 86400) ⊎ (day_length builtin d ≡ 86400 + (end_at builtin i).offset - (row_at builtin i).offset)
  which =
      ⊎_elim
      (λ (q : suc d ≡ (end_at builtin i).day). inr (last_length (omega arith)))
      (λ (q : suc d < (end_at builtin i).day). inl (length_on (omega arith)))
      (eq-or-lt_of_le w.high)

  pub least_length : 86400 ≤ day_length builtin d
  least_length = ⊎_elim (λ l. omega (arith, l)) (λ l. omega (arith, l, end_offset i w.row)) which

-- "The day before each later row has 86,401 seconds"
pub long_day : (i : ℕ) → suc i < 28 → day_length builtin ((row_at builtin (suc i)).day - 1) ≡ 86401
long_day i h =
    let l : i < length builtin.later = omega (arith, later_rows) in
    let e : end_at builtin i ≡ row_at builtin (suc i) = ended i h in
    let w : Ends (row_at builtin i) (row_at builtin (suc i)) = rw e at (row_ends builtin builtin_good i (omega arith)) in
    let d = (row_at builtin (suc i)).day - 1 in
    let f = rw e at (length_end builtin builtin_good i (omega arith) d (omega (arith, w.rises)) (rw e (omega (arith, w.rises)))) in
    omega (arith, f, adds_one i h)

-- "Covered TAI seconds are 441,763,210 to 2,145,916,836": each has a reading, and no other second has
pub covered : (z : ℤ) → within (pos first_second) (pos last_second) z ≡ true → (u : Utc) × (utc_of_second builtin z ≡ done u)
unfolding utc_of_second seat_of
covered z w = (_, ap (given utc) (reading_in z _ (cond_yes _ _ w)))

pub uncovered : (z : ℤ) → within (pos first_second) (pos last_second) z ≡ false → utc_of_second builtin z ≡ refused 5
unfolding utc_of_second seat_of
uncovered z w = ap (given utc) (reading_out z (cond_no _ _ w))
