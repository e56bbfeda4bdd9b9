-- The rungs of reading and of writing, one law for each kind of return; and what a ladder that ends in a value tells.
use mathlib.Core.Path.{◌≡◌, refl, ap, ◌∙◌}
use mathlib.Core.Bool.{Bool, true, false, ◌&&◌}
use mathlib.Core.List.{List}
use Prim.Native.Nat.{ℕ, ◌+◌, ◌-◌, ◌≤◌}
use native.Mathlib.Omega.{arith}
use lib.Dec.{leb, eqb}
use lib.IntN.{ℤ, pos, negsuc, nat_abs, ◌+ℤ◌}
use lib.ListN.{length}
use borrow.Author.Tests.{le-leb, leb-true, eq-eqb, eqb-true}
use Rattle.base.specs.Outcome.{Outcome, done, refused, need, and_then}
use Rattle.base.specs.Parts.{within}
use Rattle.base.proofs.Bools.{never_both, by_two, and_true}
use Rattle.base.proofs.Ladders.{done_is, need_yes, need_no, need_done, then_done}
use Rattle.base.proofs.Signed.{within_high}
use Rattle.calendar.specs.Gregorian.{from_epoch, index_of_day}
use Rattle.calendar.proofs.Numbers.{number_at_lem, number_of_index}
use Rattle.moment.specs.Moment.{moment, is_moment}
use Rattle.moment.specs.declared.Moment.{Moment}
use Rattle.shape.specs.Shapes.{shaped}
use Rattle.shape.proofs.Tests.{fails}
use Rattle.ascii.specs.declared.Layout.{Layout}
use Rattle.ascii.specs.Shapes.{code_shapes}
use Rattle.moment.specs.Decimal.{ticks_of}
use Rattle.ascii.specs.Ascii.{is_layout, front_of, width, layout_of, number_at, day_at, clock_at, fields_of, text, code_text, part_of, bytes_of}
use Rattle.ascii.specs.Inner.{figures, separators}
use Rattle.ascii.proofs.Shapes.{shaped_right, right_shaped}
use Rattle.ascii.proofs.Sizes.{front_in, placed_by, placed_width}

-- ---- a text's shape, in the tests that are made: its length, its layout's length, its separators and its digits
needs : {A : Type 0} (a b : Bool) (n : ℕ) (x : Outcome A) → need (a && b) n x ≡ need a n (need b n x)
needs true b n x = refl
needs false b n x = refl

module _ (s : List ℕ) where
  abbrev l : Layout
  l = layout_of s

  tests : shaped code_shapes s ≡ leb 17 (length s) && (eqb (width l) (length s) && (separators l s && figures l s))
  tests = by_two (shaped code_shapes s) _ there back
    where
      there : shaped code_shapes s ≡ true → leb 17 (length s) && (eqb (width l) (length s) && (separators l s && figures l s)) ≡ true
      there e =
          let (p, r) = shaped_right s e in
          rw (le-leb 17 (length s) (omega (arith, p.size, front_in l.ordinal)), eq-eqb (width l) (length s) (placed_width l (length s) p), r.seps, r.figs)

      back : shaped code_shapes s ≡ false → leb 17 (length s) && (eqb (width l) (length s) && (separators l s && figures l s)) ≡ false
      back e = fails _ (λ f.
          let (a, g) = and_true (leb 17 (length s)) _ f in
          let (b, h) = and_true (eqb (width l) (length s)) _ g in
          let (c, d) = and_true (separators l s) (figures l s) h in
          never_both (right_shaped s (placed_by l (length s) (omega (arith, leb-true 17 (length s) a)) (eqb-true _ _ b)) c d) e)

  pub text_told : text s ≡ need (leb 1 (length s)) 1 (need (leb 17 (length s)) 4 (need (eqb (width l) (length s)) 4 (need (separators l s) 4 (need (figures l s) 4 (fields_of l s)))))
  unfolding text
  text_told = rw (tests, needs (leb 17 (length s)) _ 4 (fields_of l s), needs (eqb (width l) (length s)) _ 4 (fields_of l s), needs (separators l s) _ 4 (fields_of l s)) refl

  pub text_shaped : 1 ≤ length s → shaped code_shapes s ≡ true → text s ≡ fields_of (layout_of s) s
  unfolding text
  text_shaped h e = need_yes 1 _ (le-leb 1 (length s) h) ∙ need_yes 4 _ e

-- ---- a text that reads, taken apart
pub record Told (s : List ℕ) (m : Moment) : Type 0 where
  pub day : ℕ
  pub second : ℕ
  pub right : shaped code_shapes s ≡ true
  pub dated : day_at (layout_of s).ordinal s ≡ done day
  pub clocked : clock_at s (front_of (layout_of s).ordinal - 8) ≡ done second
  pub is : moment (from_epoch day) second (ticks_of (layout_of s).digits (number_at s (front_of (layout_of s).ordinal + 1) (layout_of s).digits)) ≡ m

pub told : (s : List ℕ) (m : Moment) → text s ≡ done m → Told s m
unfolding text fields_of
told s m e =
    let l = layout_of s in
    let (a, b) = need_done (leb 1 (length s)) 1 _ m e in
    let (r, c) = need_done (shaped code_shapes s) 4 _ m b in
    let (n, (i, j)) = then_done (day_at l.ordinal s) _ m c in
    let (k, (p, q)) = then_done (clock_at s (front_of l.ordinal - 8)) _ m j in
    record { day = n; second = k; right = r; dated = i; clocked = p; is = done_is _ m q }

-- the index of a day is one that the calendar has
pub index_high : (z : ℤ) (n : ℕ) → index_of_day z ≡ done n → n ≤ 3652058
unfolding index_of_day
index_high z n e =
    let (w, f) = need_done (within (negsuc 714778) (pos 2937279) z) 7 (done (nat_abs (z +ℤ pos 714779))) n e in
    omega (arith, within_high (negsuc 714778) (pos 2937279) z w, rw (number_of_index z n e) at (number_at_lem n))

-- ---- what writing answers
module _ (l : Layout) (m : Moment) where
  abbrev pub code_on : ℕ → List ℕ
  code_on n = code_text l n m.second (part_of l.digits m.ticks)

  pub bytes_none : is_layout l ≡ false → bytes_of l m ≡ refused 3
  unfolding bytes_of
  bytes_none e = need_no 3 _ e

  module _ (e : is_layout l ≡ true) where
    pub bytes_invalid : is_moment m ≡ false → bytes_of l m ≡ refused 7
    unfolding bytes_of
    bytes_invalid f = need_yes 3 _ e ∙ need_no 7 _ f

    pub bytes_by : is_moment m ≡ true → (x : Outcome ℕ) → index_of_day m.day ≡ x → bytes_of l m ≡ and_then x (λ n. done (code_on n))
    unfolding bytes_of
    bytes_by f x h = need_yes 3 _ e ∙ need_yes 7 _ f ∙ ap (λ (y : Outcome ℕ). and_then y (λ n. done (code_on n))) h

-- ---- a code that is written, taken apart
pub record Put (l : Layout) (m : Moment) (code : List ℕ) : Type 0 where
  pub index : ℕ
  pub few : l.digits ≤ 12
  pub valid : is_moment m ≡ true
  pub inside : index_of_day m.day ≡ done index
  pub is : code_on l m index ≡ code

pub put : (l : Layout) (m : Moment) (code : List ℕ) → bytes_of l m ≡ done code → Put l m code
unfolding bytes_of
put l m code e =
    let (f, a) = need_done (is_layout l) 3 _ code e in
    let (v, b) = need_done (is_moment m) 7 _ code a in
    let (n, (c, d)) = then_done (index_of_day m.day) (λ n. done (code_on l m n)) code b in
    record { index = n; few = leb-true l.digits 12 f; valid = v; inside = c; is = done_is _ code d }
