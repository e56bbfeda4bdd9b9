-- One exact scale: 23:59:60 and the following 00:00:00 are one second apart.
use mathlib.Core.Path.{◌≡◌, refl, sym, ap, ◌∙◌}
use mathlib.Core.Bool.{true}
use mathlib.Core.List.{List}
use Prim.Native.Nat.{ℕ, suc, ◌+◌, ◌-◌, ◌*◌, ◌/◌, ◌^◌, ◌<◌, ◌≤◌}
use native.Mathlib.Nat.{zero-mul, one-le-pow}
use native.Mathlib.Numerals.{add-one}
use native.Mathlib.Omega.{arith}
use borrow.Author.Tests.{leb-true}
use lib.Dec.{leb, lit<}
use lib.IntN.{ℤ, pos, ◌+ℤ◌, ◌-ℤ◌}
use lib.ListN.{length, get_or}
use Rattle.base.specs.Outcome.{done, and_then, given}
use Rattle.base.specs.Parts.{plus, minus, lowered_by}
use Rattle.base.proofs.Bools.{and_true}
use Rattle.base.proofs.Ladders.{then_done, given_done}
use Rattle.base.proofs.Signed.{same, sum, difference, lower_is}
use Rattle.scale.specs.Time.{Time, per_second, worth, of_ticks, is_record, difference_of}
use Rattle.scale.proofs.Laws.{worth_parts}
use Rattle.scale.proofs.Promises.{difference_is}
use Rattle.calendar.specs.Gregorian.{from_epoch}
use Rattle.leap.specs.Table.{Table, good, offset, start, day_length, covers, reading_at}
use Rattle.leap.specs.Builtin.{no_row, builtin, first_index, last_index}
use Rattle.leap.specs.Inner.{row_at, end_at}
use Rattle.leap.specs.Utc.{day_raise, second_raise, lifted_by, reading_of, second_of, utc, utc_of_second}
use Rattle.leap.specs.declared.Row.{Row}
use Rattle.leap.specs.declared.Utc.{Utc}
use Rattle.leap.proofs.Builtin.{builtin_good, later_rows, day_in_lem, row_small, end_small}
use Rattle.leap.proofs.Outcomes.{second_done}
use Rattle.leap.proofs.Days.{start_next, length_range}
use Rattle.leap.proofs.Rows.{row_ends, end_next}
use Rattle.leap.proofs.Rule.{long_day}
use Rattle.leap.proofs.Raised.{raise_is}
use Rattle.leap.proofs.Promises.{second_is, reading_then_second, utc_index}
use Rattle.moment.specs.Moment.{moment}
use Rattle.utc.specs.Reckoning.{reckons}
use Rattle.utc.proofs.Laws.{time, table_good, last_index_lem, time_done, time_valid}
use Rattle.utc.proofs.Lift.{read_so}
use Rattle.utc.proofs.Builtin.{builtin_reckons}
use Rattle.moment.specs.Decimal.{ticks_of}
use Rattle.ascii.specs.Ascii.{is_layout, text, code_text}
use Rattle.ascii.specs.declared.Layout.{Layout}
use Rattle.ascii.proofs.Promises.{code_reads}
use Rattle.codes.specs.Text.{text_of}
use Rattle.window.specs.Among.{Among, here, there}
use Rattle.promises.specs.Promises.{second, SecondApart}

-- ---- by any good table
module _ (t : Table) (g : good t ≡ true) where
  -- what a reading says on the raised axis
  record On (z : ℤ) (u : Utc) : Type 0 where
    day : ℕ
    second : ℕ
    whole : ℕ
    days : lowered_by day_raise day ≡ u.day
    seconds : second ≡ u.second
    raised : whole + minus z ≡ second_raise + plus z
    exact : whole ≡ start t day + second
    within : second < day_length t day

  on : (z : ℤ) (u : Utc) → utc_of_second t z ≡ done u → On z u
  unfolding utc_of_second reading_of
  on z u e =
      let (r, (f, i)) = given_done utc (and_then (lifted_by second_raise z) (reading_at t)) u e in
      let (s, (a, b)) = then_done (lifted_by second_raise z) (reading_at t) r f in
      let w = second_is t g r.day r.second s (reading_then_second t g s r b).0 in
      record {
        day = r.day;
        second = r.second;
        whole = s;
        days = ap (λ (v : Utc). v.day) i;
        seconds = ap (λ (v : Utc). v.second) i;
        raised = raise_is second_raise s z a;
        exact = w.exact;
        within = w.within;
      }

  pub midnight_after : (z z' : ℤ) (u u' : Utc) → utc_of_second t z ≡ done u → utc_of_second t z' ≡ done u' → u.second ≡ 86400 → u'.day ≡ u.day +ℤ pos 1 → u'.second ≡ 0 → z' ≡ z +ℤ pos 1
  midnight_after z z' u u' e e' last next first =
      let a = on z u e in
      let b = on z' u' e' in
      let d : lowered_by day_raise b.day ≡ lowered_by day_raise a.day +ℤ pos 1 = b.days ∙ next ∙ ap (λ (y : ℤ). y +ℤ pos 1) (sym a.days) in
      let k : b.day ≡ a.day + 1 = omega (arith, ap plus d, ap minus d, sum (lowered_by day_raise a.day) (pos 1), lower_is day_raise a.day, lower_is day_raise b.day) in
      let n : start t b.day ≡ start t a.day + day_length t a.day = ap (start t) k ∙ start_next t g a.day in
      same z' (z +ℤ pos 1)
      (omega (arith, a.raised, b.raised, a.exact, b.exact, a.within, a.seconds, b.seconds, sum z (pos 1), length_range t g a.day))

-- two records of which one shows 23:59:60 of a day, and the other 00:00:00 of the next with the same ticks
pub one_second : (m m' : Time) → is_record m ≡ true → is_record m' ≡ true → m'.sec ≡ m.sec +ℤ pos 1 → m'.ticks ≡ m.ticks → difference_of m' m ≡ done second
one_second m m' v v' e t =
    let w : worth m' -ℤ worth m ≡ pos per_second =
    same (worth m' -ℤ worth m) (pos per_second)
    (omega (arith, difference (worth m') (worth m), worth_parts m, worth_parts m', sum m.sec (pos 1), ap plus e, ap minus e)) in
    difference_is m' m v' v ∙ ap (λ (y : ℤ). done (of_ticks y)) w

-- ---- the texts of those two, where a day has 23:59:60
start_is : (t : Table) (d : ℕ) → start t d ≡ d * 86400 + offset t d
unfolding start
start_is t d = refl

module _ (t : Table) (g : reckons t ≡ true) where
  covered_index : (d : ℕ) → covers t d ≡ true → d ≤ 3652058
  unfolding covers
  covered_index d c = omega (arith, last_index_lem t g, leb-true d t.last (and_true (leb t.first.day d) (leb d t.last) c).1)

  second_of_lem : ℕ → ℕ → ℤ
  second_of_lem d x = lowered_by second_raise (d * 86400 + x + offset t d)

  module _ (l : Layout) (few : is_layout l ≡ true) (d x : ℕ) (low : x ≤ 86400) (c : covers t d ≡ true) (k : x < day_length t d) where
    -- a code without fraction, of that second
    text_reads : (text_of t (code_text l d x 0) ≡ done (time (second_of_lem d x) 0)) × (is_record (time (second_of_lem d x) 0) ≡ true)
    unfolding second_of second_of_lem
    text_reads =
        let m = moment (from_epoch d) x 0 in
        let s = code_text l d x 0 in
        let z : ticks_of l.digits 0 ≡ 0 = zero-mul (per_second / 10 ^ l.digits) in
        let e = time_done t m _ (utc_index t (table_good t g) d x low ∙ ap (given (lowered_by second_raise)) (second_done t d x low c k)) in
        let r = (code_reads l d x 0 (covered_index d c) low (leb-true l.digits 12 few) (one-le-pow l.digits 10 (lit< tt))).0 in
        (read_so t (text s) m _ (rw z at r) e, time_valid t g m _ e (lit< tt))

  -- on a covered day of 86,401 seconds, and the next
  pub long_apart : (l : Layout) → is_layout l ≡ true → (d : ℕ) → covers t d ≡ true → covers t (d + 1) ≡ true → day_length t d ≡ 86401 → SecondApart t (code_text l d 86400 0) (code_text l (d + 1) 0 0)
  unfolding second_of_lem
  long_apart l few d c c' long =
      let (a, v) = text_reads l few d 86400 (omega arith) c (omega (arith, long)) in
      let (a', v') = text_reads l few (d + 1) 0 (omega arith) c' (omega (arith, length_range t (table_good t g) (d + 1))) in
      let z = second_of_lem d 86400 in
      let z' = second_of_lem (d + 1) 0 in
      let f : z' ≡ z +ℤ pos 1 = same z' (z +ℤ pos 1) (omega (arith, start_next t (table_good t g) d, long, start_is t d, start_is t (d + 1), sum z (pos 1), lower_is second_raise (d * 86400 + 86400 + offset t d), lower_is second_raise ((d + 1) * 86400 + 0 + offset t (d + 1)))) in
      (time z 0, time z' 0, a, a', one_second (time z 0) (time z' 0) v v' f refl)

-- ---- "The day before each later row has 86,401 seconds"
among_at : {A : Type 0} {x : A} {l : List A} (d : A) → Among x l → (i : ℕ) × ((i < length l) × (get_or l i d ≡ x))
among_at d here = (0, (omega arith, refl))
among_at d (there k) = let (i, (h, e)) = among_at d k in (suc i, (omega arith, e))

record Later (row : Row) : Type 0 where
  low : first_index < row.day
  high : row.day ≤ last_index
  long : day_length builtin (row.day - 1) ≡ 86401

later : (row : Row) → Among row builtin.later → Later row
later row k =
    let (i, (h, e)) = among_at no_row k in
    let n : suc i < 28 = omega (arith, later_rows) in
    let f : row_at builtin (suc i) ≡ row = e in
    let a = row_ends builtin builtin_good i (omega arith) in
    let b = row_ends builtin builtin_good (suc i) (omega arith) in
    let s = row_small i (omega arith) in
    let g : end_at builtin i ≡ row = end_next builtin i h ∙ ap (row_at builtin) (add-one i) ∙ f in
    record {
      low = omega (arith, ap (λ (y : Row). y.day) g);
      high = omega (arith, end_small (suc i) n, ap (λ (y : Row). y.day) f);
      long = rw f at (long_day i n);
    }

pub leap_apart : (row : Row) → Among row builtin.later → (l : Layout) → is_layout l ≡ true → SecondApart builtin (code_text l (row.day - 1) 86400 0) (code_text l row.day 0 0)
leap_apart row k l few =
    let a = later row k in
    let d = row.day - 1 in
    let n : d + 1 ≡ row.day = omega (arith, a.low) in
    rw n at (long_apart builtin builtin_reckons l few d (day_in_lem d (omega (arith, a.low)) (omega (arith, a.high))) (day_in_lem (d + 1) (omega (arith, a.low)) (omega (arith, a.high))) a.long)
