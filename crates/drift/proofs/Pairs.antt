-- Two pairs, judged: their quotient in steps is that of their ticks.
use mathlib.Core.Path.{◌≡◌, refl, sym, ap, ◌∙◌}
use mathlib.Core.Bool.{Bool, true, false, ◌&&◌}
use Prim.Native.Nat.{ℕ, ◌+◌, ◌*◌, ◌%◌, ◌^◌, ◌<◌}
use native.Mathlib.Nat.{div-add-mod'}
use native.Mathlib.Omega.{arith}
use lib.Dec.{ltb}
use lib.IntN.{ℤ, pos, negsuc, nat_abs, ◌-ℤ◌, ◌*ℤ◌}
use borrow.Author.Tests.{ltb-true, ltb-false, eqb-true}
use Rattle.base.specs.Outcome.{done, refused, need}
use Rattle.base.specs.Parts.{plus, minus, lowered_by}
use Rattle.base.proofs.Bools.{and_true, by_two}
use Rattle.base.proofs.Ladders.{need_yes, need_no}
use Rattle.base.proofs.Signed.{same, line, difference, lower_is, times_plus, times_minus, neg_plus, neg_minus, abs_is, lt_yes, lt_no, lt_so, lt_not, within_yes, within_under, within_over}
use Rattle.scale.specs.Time.{Time, per_second, worth, is_record}
use Rattle.scale.proofs.Laws.{worth_parts}
use Rattle.drift.specs.Rate.{step, of_all, on_grid, elapsed, short, passed, quotient_of}
use Rattle.drift.specs.Steps.{most, least, near, rated}
use Rattle.drift.specs.Answers.{paired}
use Rattle.drift.specs.Inner.{of_both, Marked, Stands, steps_of, apart}
use Rattle.drift.specs.declared.Mark.{Mark}
use Rattle.drift.specs.declared.Marks.{Marks}
use Rattle.drift.specs.declared.Judged.{Judged}
use Rattle.drift.proofs.Terms.{abs_times}

-- ---- a record on the grid
on_the_grid : (t : Time) (m : Mark) → Marked t m → on_grid t ≡ true → worth t ≡ steps_of m *ℤ pos step
on_the_grid t m k e =
    let s = steps_of m in
    same (worth t) (s *ℤ pos step)
    (omega (
      arith,
      worth_parts t,
      times_plus s step,
      times_minus s step,
      line (lowered_by (2 ^ 63) m.sec) (2 ^ 24) m.steps,
      lower_is (2 ^ 63) m.sec,
      k.seconds,
      k.steps,
      eqb-true (t.ticks % step) 0 e,
      div-add-mod' t.ticks step,
    ))

-- ---- elapsed times
apart_ticks : (s t : Time) (x y : Mark) → Marked s x → Marked t y → on_grid s ≡ true → on_grid t ≡ true → elapsed s t ≡ apart x y *ℤ pos step
apart_ticks s t x y k l e f =
    let z = apart x y in
    rw (on_the_grid s x k e, on_the_grid t y l f)
    (same (steps_of y *ℤ pos step -ℤ steps_of x *ℤ pos step) (z *ℤ pos step)
    (omega (
      arith,
      difference (steps_of y *ℤ pos step) (steps_of x *ℤ pos step),
      times_plus (steps_of x) step,
      times_minus (steps_of x) step,
      times_plus (steps_of y) step,
      times_minus (steps_of y) step,
      difference (steps_of y) (steps_of x),
      times_plus z step,
      times_minus z step,
    )))

short_near : (z : ℤ) → short (z *ℤ pos step) ≡ near z
short_near z = go (ltb (nat_abs (z *ℤ pos step)) (2 ^ 32 * per_second)) refl
  where
    size : nat_abs (z *ℤ pos step) ≡ (plus z + minus z) * step
    size = abs_times z step ∙ ap (λ (n : ℕ). n * step) (abs_is z)

    beyond : (z : ℤ) → most < plus z + minus z → near z ≡ false
    beyond (pos n) h = within_over least (pos most) (pos n) (omega arith)
    beyond (negsuc n) h = within_under least (pos most) (negsuc n) (omega (arith, neg_plus (pos most), neg_minus (pos most)))

    go : (t : Bool) → ltb (nat_abs (z *ℤ pos step)) (2 ^ 32 * per_second) ≡ t → t ≡ near z
    go true e =
        let h = ltb-true (nat_abs (z *ℤ pos step)) (2 ^ 32 * per_second) e in
        sym (within_yes least (pos most) z (omega (arith, size, neg_plus (pos most), neg_minus (pos most))) (omega (arith, size)))
    go false e =
        let h = ltb-false (nat_abs (z *ℤ pos step)) (2 ^ 32 * per_second) e in
        sym (beyond z (omega (arith, size)))

passed_ticks : (z : ℤ) → passed (z *ℤ pos step) ≡ passed z
passed_ticks z =
    by_two (passed (z *ℤ pos step)) (passed z)
    (λ h. lt_so (pos 0) z (omega (arith, lt_yes (pos 0) (z *ℤ pos step) h, times_plus z step, times_minus z step)))
    (λ h. lt_not (pos 0) z (omega (arith, lt_no (pos 0) (z *ℤ pos step) h, times_plus z step, times_minus z step)))

-- ---- the quotient
-- a number of steps over another, and the same of their ticks
on_ticks : (x y : ℤ) → need (short (x *ℤ pos step) && short (y *ℤ pos step)) 7 (need (passed (y *ℤ pos step)) 10 (done (record { num = x *ℤ pos step; den = nat_abs (y *ℤ pos step) }))) ≡ rated x y
unfolding rated
on_ticks x y = rw (short_near x, short_near y, passed_ticks y, abs_times y step)

module _ (a b : Judged) where
  pub invalid : a.valid && b.valid ≡ false → refused 7 ≡ quotient_of (paired a.pair) (paired b.pair)
  unfolding quotient_of
  invalid e = sym (need_no 7 _ (rw (a.records, b.records) at e))

  module _ (e : a.valid && b.valid ≡ true) where
    records : of_all is_record (paired a.pair) (paired b.pair) ≡ true
    records = rw (a.records, b.records) at e

    pub off_grid : a.gridded && b.gridded ≡ false → refused 11 ≡ quotient_of (paired a.pair) (paired b.pair)
    unfolding quotient_of
    off_grid f = sym (need_yes 7 _ records ∙ need_no 11 _ (rw (a.grid, b.grid) at f))

    pub on_paper : (m n : Marks) → a.gridded && b.gridded ≡ true → Stands (paired a.pair) m → Stands (paired b.pair) n → rated (apart m.onboard n.onboard) (apart m.ground n.ground) ≡ quotient_of (paired a.pair) (paired b.pair)
    unfolding quotient_of
    on_paper m n f s t =
        let p = paired a.pair in
        let q = paired b.pair in
        let g : of_all on_grid p q ≡ true = rw (a.grid, b.grid) at f in
        let (i, j) = and_true (of_both on_grid p) (of_both on_grid q) g in
        let (po, pg) = and_true (on_grid p.onboard) (on_grid p.ground) i in
        let (qo, qg) = and_true (on_grid q.onboard) (on_grid q.ground) j in
        sym (need_yes 7 _ records ∙ need_yes 11 _ g
        ∙ rw (apart_ticks p.onboard q.onboard m.onboard n.onboard s.onboard t.onboard po qo, apart_ticks p.ground q.ground m.ground n.ground s.ground t.ground pg qg) (on_ticks (apart m.onboard n.onboard) (apart m.ground n.ground)))
