-- A run that is cut in two: its T-fields are those of the first part, and then those of what is left of it with the second.
use mathlib.Core.Path.{◌≡◌, refl, ap, ◌∙◌}
use mathlib.Core.List.{List, ◌++◌}
use Prim.Native.Nat.{ℕ, zero, suc, ◌+◌, ◌*◌, ◌/◌, ◌<◌, ◌≤◌}
use native.Mathlib.Nat.{suc-mul, add-mul, add_comm, div-add-mod', mod-lt, add-mul-div_right}
use native.Mathlib.Omega.{arith}
use lib.ListN.{length, drop, length-append, length-drop}
use lib.Seq.{drop-append-le, drop-drop}
use Rattle.leap.specs.Table.{Table}
use Rattle.pfield.specs.declared.Layout.{Layout}
use Rattle.codes.specs.Reading.{width_of}
use lib.Dec.{leb}
use Rattle.base.specs.Outcome.{done, need}
use Rattle.base.proofs.Ladders.{then_done, need_done, done_is}
use Rattle.codes.proofs.Fields.{width_low}
use Rattle.receiver.specs.Fields.{fields_in, whole_in, answers_in, left_in}
use Rattle.receiver.specs.Receiver.{layout_of, run_of, Fate, fate_of, feed_of}
use Rattle.receiver.specs.declared.Receiver.{Receiver}
use Rattle.receiver.proofs.Runs.{field_first, fields_split}
use Rattle.receiver.proofs.States.{good}

module _ (t : Table) (l : Layout) where
  -- what follows T-fields that are all there does not count
  pub fields_first : (n : ℕ) (s u : List ℕ) → n * width_of l ≤ length s → fields_in t l n (s ++ u) ≡ fields_in t l n s
  unfolding fields_in
  fields_first zero s u h = refl
  fields_first (suc n) s u h =
      let k : width_of l + n * width_of l ≤ length s = omega (arith, suc-mul n (width_of l)) in
      rw (field_first t l s u (omega arith), drop-append-le (width_of l) s u (omega arith), fields_first n (drop (width_of l) s) u (omega (arith, length-drop (width_of l) s)))

  module _ (some : 0 < width_of l) (s : List ℕ) where
    -- the T-fields that are whole, and less than one left
    pub parted : (whole_in l s * width_of l ≤ length s) × (length (left_in l s) < width_of l)
    unfolding left_in
    parted =
        let d = div-add-mod' (length s) (width_of l) in
        let m = mod-lt (length s) some in
        (omega (arith, d), omega (arith, d, m, length-drop (whole_in l s * width_of l) s))

    module _ (u : List ℕ) where
      rest : drop (whole_in l s * width_of l) (s ++ u) ≡ left_in l s ++ u
      unfolding left_in
      rest = drop-append-le (whole_in l s * width_of l) s u parted.0

      wholes : whole_in l (s ++ u) ≡ whole_in l s + whole_in l (left_in l s ++ u)
      unfolding left_in
      wholes =
          let n : length (s ++ u) ≡ length (left_in l s ++ u) + whole_in l s * width_of l =
          omega (arith, length-append s u, length-append (left_in l s) u, length-drop (whole_in l s * width_of l) s, parted.0) in
          ap (λ (x : ℕ). x / width_of l) n ∙ add-mul-div_right (length (left_in l s ++ u)) (whole_in l s) some ∙ add_comm (whole_in l (left_in l s ++ u)) (whole_in l s)

      left_behind : (v : List ℕ) → drop (whole_in l s * width_of l) (s ++ u) ≡ v → whole_in l (s ++ u) ≡ whole_in l s + whole_in l v → left_in l (s ++ u) ≡ left_in l v
      unfolding left_in
      left_behind v e f = rw (f, add-mul, ← drop-drop (whole_in l v * width_of l) (whole_in l s * width_of l) (s ++ u), e)

      pub cut_answers : answers_in t l (s ++ u) ≡ answers_in t l s ++ answers_in t l (left_in l s ++ u)
      unfolding answers_in
      cut_answers =
          ap (λ (n : ℕ). fields_in t l n (s ++ u)) wholes ∙ fields_split t l (whole_in l s) (whole_in l (left_in l s ++ u)) (s ++ u)
          ∙ rw (fields_first (whole_in l s) s u parted.0, rest)

      pub cut_left : left_in l (s ++ u) ≡ left_in l (left_in l s ++ u)
      cut_left = left_behind (left_in l s ++ u) rest wholes

-- so a call leaves less than a T-field
pub few_left : (t : Table) (r : Receiver) (piece : List ℕ) (room : ℕ) (f : Fate) → feed_of t r piece room ≡ done f → length f.left ≤ 12
unfolding feed_of
few_left t r piece room f h =
    let (l, (e, d)) = then_done (layout_of r) (λ l. need (leb (whole_in l (run_of r piece)) room) 8 (done (fate_of t l (run_of r piece)))) f h in
    let (_, i) = need_done (leb (whole_in l (run_of r piece)) room) 8 (done (fate_of t l (run_of r piece))) f d in
    let k : fate_of t l (run_of r piece) ≡ f = done_is _ f i in
    let some : 0 < width_of l = omega (arith, (good r l e).few) in
    rw (← k) (omega (arith, (parted t l some (run_of r piece)).1, width_low l))
