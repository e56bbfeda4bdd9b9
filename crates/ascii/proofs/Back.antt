-- A code that was written, read: its shape is right, its layout is the writer's, and its fields are what it was written from.
use mathlib.Core.Path.{◌≡◌, subst, ◌∙◌}
use mathlib.Core.Bool.{Bool, true, false}
use mathlib.Core.List.{List}
use Prim.Native.Nat.{ℕ, zero, suc, ◌+◌, ◌-◌, ◌^◌, ◌<◌, ◌≤◌}
use native.Mathlib.Omega.{arith}
use borrow.Author.Tests.{le-leb}
use Rattle.base.specs.Outcome.{Outcome, done}
use Rattle.calendar.specs.Gregorian.{ordinal_on, date_in, index_of_date, index_of_ordinal, from_epoch}
use Rattle.calendar.proofs.Promises.{ordinal_at_done, date_at_done, ordinal_at_back, date_at_back, ordinal_fields_lem, date_fields_lem}
use Rattle.clock.specs.Clock.{clock_of}
use Rattle.clock.proofs.Laws.{shown, shown_back}
use Rattle.moment.specs.Moment.{moment}
use Rattle.shape.specs.Shapes.{shaped}
use Rattle.shape.proofs.Pieces.{Agree, Small, agree_spelled}
use Rattle.ascii.specs.declared.Layout.{Layout}
use Rattle.ascii.specs.Shapes.{code_shapes}
use Rattle.moment.specs.Decimal.{ticks_of}
use Rattle.ascii.specs.Ascii.{front_of, layout_of, number_at, day_at, clock_at, fields_of, code_text}
use Rattle.ascii.proofs.Shapes.{lay, tail_pieces, code_pieces, code_spells, code_shape, own_shaped}

-- ---- the shape of what is written
pub code_shaped : (l : Layout) (n x f : ℕ) → l.digits ≤ 12 → (shaped code_shapes (code_text l n x f) ≡ true) × (layout_of (code_text l n x f) ≡ l)
code_shaped l n x f h = own_shaped l (code_text l n x f) (le-leb l.digits 12 h) (code_shape l n x f)

-- ---- its numbers
tail_small : (d : ℕ) (z : Bool) (f : ℕ) → f < 10 ^ d → Small (tail_pieces d z f)
tail_small zero true f h = tt
tail_small zero false f h = tt
tail_small (suc d) true f h = (h, tt)
tail_small (suc d) false f h = (h, tt)

small : (o : Bool) (d : ℕ) (z : Bool) (n x f : ℕ) → n ≤ 3652058 → x ≤ 86400 → f < 10 ^ d → Small (code_pieces (lay o d z) n x f)
small true d z n x f h k i =
    let (a, b, c, e) = ordinal_fields_lem n (ordinal_on n) (ordinal_at_done n h) in
    let w = shown x k in
    (omega arith, (omega arith, (omega (arith, w.hour), (omega (arith, w.minute), (omega (arith, w.second), tail_small d z f i)))))
small false d z n x f h k i =
    let (a, b, c, e, g, j) = date_fields_lem n (date_in (ordinal_on n)) (date_at_done n h) in
    let w = shown x k in
    (omega arith, (omega arith, (omega arith, (omega (arith, w.hour), (omega (arith, w.minute), (omega (arith, w.second), tail_small d z f i))))))

-- ---- its fields
two : (f : ℕ → ℕ → Outcome ℕ) {a b c d : ℕ} → a ≡ b → c ≡ d → f a c ≡ f b d
two f p q = rw (p, q)

three : (f : ℕ → ℕ → ℕ → Outcome ℕ) {a b c d x y : ℕ} → a ≡ b → c ≡ d → x ≡ y → f a c x ≡ f b d y
three f p q r = rw (p, q, r)

tail_back : (s : List ℕ) (d : ℕ) (z : Bool) (f at : ℕ) → f < 10 ^ d → Agree at s (tail_pieces d z f) → number_at s (at + 1) d ≡ f
tail_back s zero z f at h e = omega arith
tail_back s (suc d) z f at h e = e.0

module _ (s : List ℕ) (d : ℕ) (z : Bool) (n x f : ℕ) (h : n ≤ 3652058) (k : x ≤ 86400) (i : f < 10 ^ d) where
  parts_back : (o : Bool) → Agree 0 s (code_pieces (lay o d z) n x f) → (day_at o s ≡ done n) × (clock_at s (front_of o - 8) ≡ done x) × (number_at s (front_of o + 1) d ≡ f)
  unfolding day_at clock_at
  parts_back true (a, (b, (p, (q, (r, e))))) =
      let t = ordinal_on n in
      (two index_of_ordinal a b ∙ ordinal_at_back n t (ordinal_at_done n h), three clock_of p q r ∙ shown_back x k, tail_back s d z f 17 i e)
  parts_back false (a, (b, (c, (p, (q, (r, e)))))) =
      let t = date_in (ordinal_on n) in
      (three index_of_date a b c ∙ date_at_back n t (date_at_done n h), three clock_of p q r ∙ shown_back x k, tail_back s d z f 19 i e)

pub fields_back : (l : Layout) (n x f : ℕ) → n ≤ 3652058 → x ≤ 86400 → f < 10 ^ l.digits → fields_of l (code_text l n x f) ≡ done (moment (from_epoch n) x (ticks_of l.digits f))
unfolding fields_of
fields_back l n x f h k i =
    let ps = code_pieces l n x f in
    let e = agree_spelled ps (small l.ordinal l.digits l.zone n x f h k i) in
    let (a, b, c) = parts_back (code_text l n x f) l.digits l.zone n x f h k i l.ordinal (subst (λ (s : List ℕ). Agree 0 s ps) (code_spells l n x f) e) in
    rw (a, b, c)
