-- What a call comes to, by the state that it is given and by the room.
use mathlib.Core.Path.{◌≡◌, sym, ap, ◌∙◌}
use mathlib.Core.List.{List}
use Prim.Native.Nat.{ℕ, ◌+◌, ◌/◌, ◌<◌, ◌≤◌}
use native.Mathlib.Omega.{arith}
use lib.IntN.{ℤ}
use lib.ListN.{length, length-append}
use lib.Seq.{length-take-le}
use borrow.Author.Tests.{le-leb, lt-leb}
use Rattle.base.specs.Outcome.{done, refused}
use Rattle.leap.specs.Table.{Table}
use Rattle.leap.specs.Builtin.{builtin}
use Rattle.pfield.specs.declared.Layout.{Layout}
use Rattle.codes.specs.Reading.{width_of}
use Rattle.codes.proofs.Fields.{width_low}
use Rattle.receiver.specs.Fields.{whole_in}
use Rattle.receiver.specs.Receiver.{held_in, layout_of, run_of, fate_of, feed_of}
use Rattle.receiver.specs.Inner.{Passed, Accepts}
use Rattle.receiver.specs.declared.Held.{Held}
use Rattle.receiver.specs.declared.Receiver.{Receiver}
use Rattle.receiver.proofs.Runs.{length_answers}
use Rattle.receiver.proofs.States.{good}
use Rattle.std.specs.Prelude.{Ok}

-- ---- the outcome
module _ (t : Table) (r : Receiver) (piece : List ℕ) (room : ℕ) where
  module _ (l : Layout) (e : layout_of r ≡ done l) where
    pub no_room : room < whole_in l (run_of r piece) → feed_of t r piece room ≡ refused 8
    unfolding feed_of
    no_room h = rw (e, lt-leb _ _ h)

    pub with_room : whole_in l (run_of r piece) ≤ room → feed_of t r piece room ≡ done (fate_of t l (run_of r piece))
    unfolding feed_of
    with_room h = rw (e, le-leb _ _ h)

-- ---- how many octets a good state holds, and how many T-fields a piece completes
module _ (r : Receiver) (size : length r.pending ≡ 12) (l : Layout) (e : layout_of r ≡ done l) where
  pub counted : length (held_in r) ≡ r.count
  counted = length-take-le r.count r.pending (omega (arith, (good r l e).few, width_low l))

  pub completed : (piece : List ℕ) → (r.count + length piece) / width_of l ≡ whole_in l (run_of r piece)
  completed piece = ap (λ (n : ℕ). n / width_of l) (sym (length-append (held_in r) piece ∙ ap (λ (n : ℕ). n + length piece) counted))

  pub accepts : (piece : List ℕ) (rows new : List (List ℤ)) (n : ℕ) (h : Held) → n ≡ (r.count + length piece) / width_of l → n ≤ length rows → Passed l (run_of r piece) rows new h → Accepts (feed_of builtin r piece (length rows)) rows new (Ok (n, h))
  accepts piece rows new n h many room p =
      let m : n ≡ whole_in l (run_of r piece) = many ∙ completed piece in
      rw (with_room builtin r piece (length rows) l e (omega arith))
      (record { answer = λ i. done ((m ∙ sym (length_answers builtin l (run_of r piece))) i, p.left i); rows = p.rows })
