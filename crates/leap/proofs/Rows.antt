-- Row i of a good table, its end, and what is in force between them.
use Prim.Native.Nat.{ℕ, zero, suc, ◌+◌, ◌-◌, ◌*◌, ◌/◌, ◌≤◌, ◌<◌, min}
use mathlib.Core.Path.{◌≡◌, refl, ap, sym, ◌∙◌}
use mathlib.Core.Bool.{Bool, true, false}
use mathlib.Core.List.{List, [], ◌∷◌, ◌++◌}
use native.Mathlib.Omega.{arith}
use lib.Dec.{ltb}
use native.Mathlib.Numerals.{add-one}
use lib.ListN.{length, get_or, get_or-append}
use borrow.Author.Tests.{ltb-true, ltb-false}
use Rattle.leap.specs.declared.Row.{Row}
use Rattle.leap.specs.Table.{Table, good_from, last_row, good, off_from, offset, start, day_length, day_holding}
use Rattle.leap.specs.Builtin.{no_row}
use Rattle.leap.specs.Inner.{row_at, end_row, end_at, begins}
use Rattle.leap.proofs.Days.{next, off_before, off_after, off_first, rows_good, last_day_lem, start_mono, holding_is, length_is}

-- what ends row i, where z ends the last
abbrev ends : List Row → Row → ℕ → Row
ends rs z i = get_or (rs ++ (z ∷ [])) i no_row

-- the rows' days rise from the first on
from_first : (r : Row) (rs : List Row) (i : ℕ) → good_from r rs ≡ true → i ≤ length rs → r.day ≤ (get_or (r ∷ rs) i no_row).day
from_first r rs zero g h = omega arith
from_first r [] (suc i) g h = absurd (omega arith)
from_first r (r' ∷ rs) (suc i) g h = omega (arith, (next r r' rs g).rises, from_first r' rs i (next r r' rs g).rest (omega arith))

-- and so do their begins
begin_first : (r : Row) (rs : List Row) (i : ℕ) → good_from r rs ≡ true → i ≤ length rs → begins r ≤ begins (get_or (r ∷ rs) i no_row)
begin_first r rs zero g h = omega arith
begin_first r [] (suc i) g h = absurd (omega arith)
begin_first r (r' ∷ rs) (suc i) g h =
    let n = next r r' rs g in
    omega (arith, n.rises, n.down, begin_first r' rs i n.rest (omega arith))

begin_later : (r : Row) (rs : List Row) (i j : ℕ) → good_from r rs ≡ true → i ≤ j → j ≤ length rs → begins (get_or (r ∷ rs) i no_row) ≤ begins (get_or (r ∷ rs) j no_row)
begin_later r rs zero j g l h = begin_first r rs j g h
begin_later r rs (suc i) zero g l h = absurd (omega arith)
begin_later r [] (suc i) (suc j) g l h = absurd (omega arith)
begin_later r (r' ∷ rs) (suc i) (suc j) g l h = begin_later r' rs i j (next r r' rs g).rest (omega arith) (omega arith)

-- a row ends after its day, and by at most one of offset
pub record Ends (r z : Row) : Type 0 where
  pub rises : r.day < z.day
  pub up : z.offset ≤ r.offset + 1
  pub down : r.offset ≤ z.offset + 1

ends_after : (r : Row) (rs : List Row) (z : Row) (i : ℕ) → good_from r rs ≡ true → (last_row r rs).day < z.day → z.offset ≡ (last_row r rs).offset → i ≤ length rs → Ends (get_or (r ∷ rs) i no_row) (ends rs z i)
ends_after r [] z zero g l e h = record { rises = l; up = omega arith; down = omega arith }
ends_after r [] z (suc i) g l e h = absurd (omega arith)
ends_after r (r' ∷ rs) z zero g l e h = let n = next r r' rs g in record { rises = n.rises; up = n.up; down = n.down }
ends_after r (r' ∷ rs) z (suc i) g l e h = ends_after r' rs z i (next r r' rs g).rest l e (omega arith)

-- from a row's day to before its end its offset is in force
in_force : (r : Row) (rs : List Row) (z : Row) (i d : ℕ) → good_from r rs ≡ true → i ≤ length rs → (get_or (r ∷ rs) i no_row).day ≤ d → d < (ends rs z i).day → off_from r rs d ≡ (get_or (r ∷ rs) i no_row).offset
in_force r [] z zero d g h l u = refl
in_force r [] z (suc i) d g h l u = absurd (omega arith)
in_force r (r' ∷ rs) z zero d g h l u = off_before r r' rs d u
in_force r (r' ∷ rs) z (suc i) d g h l u =
    let n = next r r' rs g in
    off_after r r' rs d (omega (arith, from_first r' rs i n.rest (omega arith))) ∙ in_force r' rs z i d n.rest (omega arith) l u

-- on the day that ends a row, the offset of what ends it
at_end : (r : Row) (rs : List Row) (z : Row) (i d : ℕ) → good_from r rs ≡ true → (last_row r rs).day < z.day → z.offset ≡ (last_row r rs).offset → i ≤ length rs → d ≡ (ends rs z i).day → off_from r rs d ≡ (ends rs z i).offset
at_end r [] z zero d g l e h q = sym e
at_end r [] z (suc i) d g l e h q = absurd (omega arith)
at_end r (r' ∷ rs) z zero d g l e h q =
    off_after r r' rs d (omega arith) ∙ off_first r' rs d (next r r' rs g).rest (omega arith)
at_end r (r' ∷ rs) z (suc i) d g l e h q =
    let n = next r r' rs g in
    let a = ends_after r' rs z i n.rest l e (omega arith) in
    off_after r r' rs d (omega (arith, from_first r' rs i n.rest (omega arith), a.rises)) ∙ at_end r' rs z i d n.rest l e (omega arith) q

-- what ends a row, the last aside, is the next row
pub end_next : (t : Table) (i : ℕ) → i < length t.later → end_at t i ≡ row_at t (i + 1)
end_next t i h = get_or-append t.later (end_row t ∷ []) no_row i h ∙ sym (ap (row_at t) (add-one i))

-- ---- the same of a table
pub begins_rise : (t : Table) → good t ≡ true → (i j : ℕ) → i ≤ j → j ≤ length t.later → begins (row_at t i) ≤ begins (row_at t j)
begins_rise t g i j l h = begin_later t.first t.later i j (rows_good t g) l h

module _ (t : Table) (g : good t ≡ true) (i : ℕ) (h : i ≤ length t.later) where
  pub row_ends : Ends (row_at t i) (end_at t i)
  row_ends = ends_after t.first t.later (end_row t) i (rows_good t g) (omega (arith, last_day_lem t g)) refl h

  pub row_from : t.first.day ≤ (row_at t i).day
  row_from = from_first t.first t.later i (rows_good t g) h

  pub offset_in : (d : ℕ) → (row_at t i).day ≤ d → d < (end_at t i).day → offset t d ≡ (row_at t i).offset
  unfolding offset
  offset_in d l u = in_force t.first t.later (end_row t) i d (rows_good t g) h l u

  pub offset_end : (d : ℕ) → d ≡ (end_at t i).day → offset t d ≡ (end_at t i).offset
  unfolding offset
  offset_end d e = at_end t.first t.later (end_row t) i d (rows_good t g) (omega (arith, last_day_lem t g)) refl h e

  -- a day before the end is ordinary, and the last one is as long as the end's offset has it
  pub length_in : (d : ℕ) → (row_at t i).day ≤ d → d + 1 < (end_at t i).day → day_length t d ≡ 86400
  length_in d l u = omega (arith, length_is t g d, offset_in d l (omega arith), offset_in (d + 1) (omega arith) u)

  pub length_end : (d : ℕ) → (row_at t i).day ≤ d → d + 1 ≡ (end_at t i).day → day_length t d ≡ 86400 + (end_at t i).offset - (row_at t i).offset
  length_end d l e = omega (arith, length_is t g d, offset_in d l (omega arith), offset_end (d + 1) e)

  pub start_row : start t (row_at t i).day ≡ begins (row_at t i)
  unfolding start
  start_row = ap (λ (o : ℕ). (row_at t i).day * 86400 + o) (offset_in (row_at t i).day (omega arith) row_ends.rises)

  -- in a row's time, the day that holds a second
  row_day_by : (s d : ℕ) → begins (row_at t i) ≤ s → s < begins (end_at t i) → d ≡ min ((s - (row_at t i).offset) / 86400) ((end_at t i).day - 1) → (b : Bool) → ltb (d + 1) (end_at t i).day ≡ b → (start t d ≤ s) × (s < start t (d + 1)) × (offset t d ≡ (row_at t i).offset)
  unfolding start
  row_day_by s d l u m true q =
      let w = row_ends in
      let k : d + 1 < (end_at t i).day = ltb-true _ _ q in
      let f : offset t d ≡ (row_at t i).offset = offset_in d (omega (arith, w.rises)) (omega arith) in
      let f' : offset t (d + 1) ≡ (row_at t i).offset = offset_in (d + 1) (omega (arith, w.rises)) k in
      (omega arith, omega arith, f)
  row_day_by s d l u m false q =
      let w = row_ends in
      let k : (end_at t i).day ≤ d + 1 = ltb-false _ _ q in
      let e : d + 1 ≡ (end_at t i).day = omega (arith, w.rises) in
      let f : offset t d ≡ (row_at t i).offset = offset_in d (omega (arith, w.rises)) (omega (arith, w.rises)) in
      let f' : offset t (d + 1) ≡ (end_at t i).offset = offset_end (d + 1) e in
      (omega (arith, w.rises), omega (arith, w.rises), f)

  pub row_day : (s d : ℕ) → begins (row_at t i) ≤ s → s < begins (end_at t i) → d ≡ min ((s - (row_at t i).offset) / 86400) ((end_at t i).day - 1) → (day_holding t s ≡ d) × (offset t d ≡ (row_at t i).offset) × (start t d ≤ s)
  row_day s d l u m =
      let (a, b, f) = row_day_by s d l u m _ refl in
      let k : start t t.first.day ≤ s = omega (arith, start_mono t g t.first.day (row_at t i).day row_from, start_row) in
      (holding_is t g s d k a b, f, a)
