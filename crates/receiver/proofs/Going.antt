-- The T-fields of a piece, read where they stand, one after another into their rows.
use mathlib.Core.Path.{◌≡◌, refl, sym, ap, ◌∙◌}
use mathlib.Core.List.{List}
use Prim.Native.Nat.{ℕ, suc, ◌+◌, ◌*◌, ◌<◌, ◌≤◌}
use native.Mathlib.Nat.{zero-mul, suc-mul, add-zero, mul-le-mul_right}
use native.Mathlib.Numerals.{add-one}
use native.Mathlib.Omega.{arith}
use lib.IntN.{ℤ}
use lib.ListN.{length, drop, set}
use lib.Seq.{drop-drop}
use Rattle.leap.specs.Builtin.{builtin}
use Rattle.pfield.specs.declared.Layout.{Layout}
use Rattle.codes.specs.Reading.{field_of, width_of}
use Rattle.receiver.specs.Fields.{fields_in}
use Rattle.receiver.specs.Answers.{row_of, rows_over}
use Rattle.receiver.proofs.Rows.{row_more}
use Rattle.receiver.proofs.Runs.{field_at, length_fields, fields_more}

-- the first i of the T-fields from `at` on, one for each row, are read, and end at `end`
pub record Going (piece : List ℕ) (at : ℕ) (l : Layout) (old new : List (List ℤ)) (end i : ℕ) : Type 0 where
  pub within : at + length old * width_of l ≤ length piece
  pub part : i ≤ length old
  pub place : end ≡ at + i * width_of l
  pub is : new ≡ rows_over (fields_in builtin l i (drop at piece)) old

pub begins : (piece : List ℕ) (at : ℕ) (l : Layout) (old : List (List ℤ)) → at + length old * width_of l ≤ length piece → Going piece at l old old at 0
unfolding fields_in
begins piece at l old h = record { within = h; part = omega arith; place = rw (zero-mul, add-zero); is = refl }

module _ {piece : List ℕ} {at : ℕ} {l : Layout} {old new : List (List ℤ)} {end i : ℕ} (g : Going piece at l old new end i) where
  -- the next one stands in the piece
  next_within : i < length old → end + width_of l ≤ length piece
  next_within h = omega (arith, g.place, g.within, suc-mul i (width_of l), mul-le-mul_right {m = suc i} {n = length old} (width_of l) h)

  pub goes_on : i < length old → Going piece at l old (set new i (row_of (field_of builtin piece end l))) (end + width_of l) (i + 1)
  goes_on h =
      let s = drop at piece in
      let fs = fields_in builtin l i s in
      let k = length_fields builtin l i s in
      let e : field_of builtin piece end l ≡ field_of builtin (drop (i * width_of l) s) 0 l =
      field_at builtin l piece end (next_within h) ∙ ap (λ (x : List ℕ). field_of builtin x 0 l) (ap (λ (x : ℕ). drop x piece) g.place ∙ sym (drop-drop (i * width_of l) at piece)) in
      record {
        within = g.within;
        part = omega arith;
        place = omega (arith, g.place, suc-mul i (width_of l), ap (λ (x : ℕ). x * width_of l) (add-one i));
        is =
            rw (e, g.is) (ap (λ (x : ℕ). set (rows_over fs old) x (row_of (field_of builtin (drop (i * width_of l) s) 0 l))) (sym k) ∙ row_more fs _ old (omega (arith, k)))
            ∙ ap (λ (x : List _). rows_over x old) (sym (fields_more builtin l i s));
      }

  pub went : length old ≤ i → (end ≡ at + length old * width_of l) × (new ≡ rows_over (fields_in builtin l (length old) (drop at piece)) old)
  went h =
      let e : i ≡ length old = omega (arith, g.part) in
      (rw (← e) g.place, rw (← e) g.is)
