-- A receiver (document 02, request 2: "Its making refuses a bad P-field or epoch as 01 does. .. Too little room for a call's answers is 8"). A state is judged as its making judges it, and one that no call can have made is 7.
use Rattle.std.specs.Prelude.{Bool, List, [], ◌∷◌, ◌++◌, ℕ, ◌+◌, ◌*◌, ltb, ℤ, length, drop}
use Rattle.leap.specs.Table.{Table}
use Rattle.pfield.specs.declared.Layout.{Layout}
use Rattle.receiver.specs.Receiver.{held_in, all_zero}
use Rattle.receiver.specs.declared.Receiver.{Receiver}
use Rattle.promises.specs.Rungs.{Rung, rung}
use Rattle.promises.specs.RungsBinary.{octet_rungs, layout_of, octets_of, field_good, day_good, second_good}

abbrev pub receiver_make_rungs : ℕ → ℤ → List Rung
receiver_make_rungs o e = octet_rungs o e

-- "the bytes of an unfinished code": fewer than its T-field has
abbrev pub unfinished : Layout → Receiver → Bool
unfinished l r = ltb r.count (octets_of l)

-- and nothing behind them
abbrev pub clear : Receiver → Bool
clear r = all_zero (drop r.count r.pending)

-- room for each T-field that is completed: the bytes do not come to one T-field more than there are rows
abbrev pub roomy : Layout → Receiver → List ℕ → ℕ → Bool
roomy l r piece room = ltb (length (held_in r) + length piece) ((room + 1) * octets_of l)

abbrev pub state_rungs : Layout → Receiver → List ℕ → ℕ → List Rung
state_rungs l r piece room = rung 7 (unfinished l r) ∷ rung 7 (clear r) ∷ rung 8 (roomy l r piece room) ∷ []

abbrev pub receive_rungs : Receiver → List ℕ → ℕ → List Rung
receive_rungs r piece room = octet_rungs r.p.octet r.epoch ++ state_rungs (layout_of r.p.octet r.epoch) r piece room

-- an answer: a record, or 4, 5 or 6 by the octets of its T-field from the start of s on, which are all there
abbrev pub answer_rungs : Table → List ℕ → Layout → List Rung
answer_rungs t s l = rung 4 (field_good s 0 l) ∷ rung 5 (day_good t s 0 l) ∷ rung 6 (second_good t s 0 l) ∷ []
