-- The ways of a piece: it completes no T-field and waits, or it completes some.
use mathlib.Core.Path.{◌≡◌, refl, sym, ap, ◌∙◌}
use mathlib.Core.List.{List, ◌∷◌, ◌++◌}
use Prim.Native.Nat.{ℕ, ◌+◌, ◌*◌, ◌-◌, ◌<◌, ◌≤◌}
use native.Mathlib.Omega.{arith}
use lib.IntN.{ℤ}
use lib.ListN.{length, drop, replicate, length-append, length-drop}
use lib.Seq.{length-take-le}
use Rattle.leap.specs.Builtin.{builtin}
use Rattle.pfield.specs.declared.Layout.{Layout}
use Rattle.codes.specs.Reading.{field_of, width_of}
use Rattle.codes.proofs.Fields.{width_low}
use Rattle.receiver.specs.Fields.{fields_in}
use Rattle.receiver.specs.Answers.{row_of, rows_over}
use Rattle.receiver.specs.Receiver.{held_in, run_of}
use Rattle.receiver.specs.Inner.{padded, keeps, Passes, Passed}
use Rattle.receiver.specs.declared.Receiver.{Receiver}
use Rattle.receiver.proofs.Pads.{padded_short}
use Rattle.receiver.proofs.Rows.{row_first}
use Rattle.receiver.proofs.Runs.{field_padded, none_short, none_answered, first_whole, ends_within, some_answered, some_left}

-- what is short enough is kept whole
keeps_short : (s : List ℕ) (k : ℕ) → k ≡ length s → k ≤ 12 → record { bytes = padded 12 s; count = k } ≡ keeps s
keeps_short s k h m =
    let b : padded 12 s ≡ s ++ replicate (12 - length s) 0 = padded_short 12 s (omega arith) in
    λ i. record { bytes = b i; count = h i }

pub held_low : (l : Layout) (n : ℕ) (r : Receiver) (piece : List ℕ) (rows : List (List ℤ)) → Passes l n r piece rows → r.count ≤ 12
held_low l n r piece rows p = omega (arith, p.few, width_low l)

module _ {l : Layout} {n : ℕ} {r : Receiver} {piece : List ℕ} {rows : List (List ℤ)} (p : Passes l n r piece rows) (size : length r.pending ≡ 12) where
  -- the octets that the held ones lack
  abbrev lacking : ℕ
  lacking = width_of l - r.count

  counted : length (held_in r) ≡ r.count
  counted = length-take-le r.count r.pending (omega (arith, p.few, width_low l))

  lacks : length (held_in r) + lacking ≡ width_of l
  lacks = omega (arith, counted, p.few)

  some : 0 < width_of l
  some = omega (arith, p.few)

  -- ---- it waits
  module _ (z : n ≡ 0) where
    pub waits_within : r.count + length piece ≤ 12
    waits_within = omega (arith, width_low l, counted, none_short builtin l (held_in r) piece lacking lacks some n p.many z)

    pub waits : Passed l (run_of r piece) rows rows (record { bytes = padded 12 (run_of r piece); count = r.count + length piece })
    waits =
        let (a, b) = none_answered builtin l (held_in r) piece lacking lacks some n p.many z in
        let m : length (run_of r piece) ≡ r.count + length piece = omega (arith, length-append (held_in r) piece, counted) in
        record { left = keeps_short (run_of r piece) (r.count + length piece) (sym m) waits_within ∙ ap keeps (sym b); rows = rw a }

  -- ---- it completes some: where the last of them ends
  abbrev pub end : ℕ
  end = lacking + (n - 1) * width_of l

  module _ (some-there : 0 < n) where
    last_within : (end ≤ length piece) × (length piece - end ≤ 12)
    last_within =
        let (a, b) = ends_within builtin l (held_in r) piece lacking lacks some n p.many some-there in
        (a, omega (arith, b, width_low l))

    -- its answers in their rows: the first, and those behind it
    pub answers : (first : List ℤ) → first ≡ row_of (field_of builtin (padded 13 (run_of r piece)) 0 l)
        → Passed l (run_of r piece) rows (first ∷ rows_over (fields_in builtin l (n - 1) (drop lacking piece)) (drop 1 rows)) (record { bytes = padded 12 (drop end piece); count = length (drop end piece) })
    answers first e =
        let run = run_of r piece in
        let a = some_answered builtin l (held_in r) piece lacking lacks some n p.many some-there in
        let b = some_left builtin l (held_in r) piece lacking lacks some n p.many some-there in
        let d = field_padded builtin l 13 run (width_low l) (first_whole builtin l (held_in r) piece lacking lacks some n p.many some-there) in
        record {
          left = keeps_short (drop end piece) (length (drop end piece)) refl (omega (arith, length-drop end piece, last_within.1)) ∙ ap keeps (sym b);
          rows = rw (e, d, a) (row_first (field_of builtin run 0 l) (fields_in builtin l (n - 1) (drop lacking piece)) rows);
        }
