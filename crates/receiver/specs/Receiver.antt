-- A receiver (document 02, request 2: "A receiver with one fixed P-field and epoch takes T-fields in parts, some of no bytes. The receiver is a small state handed back by each call, holding the bytes of an unfinished code").
use Rattle.std.specs.Prelude.{Bool, ◌&&◌, List, [], ◌++◌, ℕ, ◌-◌, eqb, ltb, leb, ℤ, length, take, drop, replicate}
use Rattle.std.specs.List.{list_all}
use Rattle.base.specs.Outcome.{Outcome, done, refused, need, and_then, given}
use Rattle.scale.specs.Time.{Time}
use Rattle.leap.specs.Table.{Table}
use Rattle.pfield.specs.PField.{laid}
use Rattle.pfield.specs.declared.PField.{PField}
use Rattle.pfield.specs.declared.Codes.TheVariants.{All}
use Rattle.pfield.specs.declared.Layout.{Layout}
use Rattle.codes.specs.Reading.{width_of}
use Rattle.receiver.specs.Fields.{whole_in, answers_in, left_in}
use Rattle.receiver.specs.declared.Receiver.{Receiver}

-- ---- the state
-- the receiver that holds some octets of an unfinished T-field: zeros stand behind them
abbrev pub holding : PField → ℤ → List ℕ → Receiver
holding p e h = record { p = p; epoch = e; pending = h ++ replicate (12 - length h) 0; count = length h }

-- and what a receiver holds
abbrev pub held_in : Receiver → List ℕ
held_in r = take r.count r.pending

abbrev pub all_zero : List ℕ → Bool
all_zero s = list_all (λ x. eqb x 0) s

-- a state that a call can have made: fewer octets than the T-field has, and zeros behind them
unfoldable pub is_state : Layout → Receiver → Bool
is_state l r = ltb r.count (width_of l) && all_zero (drop r.count r.pending)

-- ---- its making
-- "Its making refuses a bad P-field or epoch as 01 does"
abbrev pub made_of : PField → ℤ → Outcome Receiver
made_of p e = given (λ (l : Layout). holding p e []) (laid All p e)

-- ---- a call
-- a receiver is judged as its making judges it; a state that no call can have made is 7
unfoldable pub layout_of : Receiver → Outcome Layout
layout_of r = and_then (laid All r.p r.epoch) (λ l. need (is_state l r) 7 (done l))

-- the run that a piece goes on with
abbrev pub run_of : Receiver → List ℕ → List ℕ
run_of r piece = held_in r ++ piece

-- what a piece comes to: an answer for each T-field that it completes, in order, and the bytes left
pub record Fate : Type 0 where
  pub answers : List (Outcome Time)
  pub left : List ℕ

abbrev pub fate_of : Table → Layout → List ℕ → Fate
fate_of t l run = record { answers = answers_in t l run; left = left_in l run }

-- "Too little room for a call's answers is 8"
unfoldable pub feed_of : Table → Receiver → List ℕ → ℕ → Outcome Fate
feed_of t r piece room =
    and_then (layout_of r) (λ l. need (leb (whole_in l (run_of r piece)) room) 8 (done (fate_of t l (run_of r piece))))

-- "Bytes left at the end stay pending"; a refusal leaves the state unchanged
abbrev pub next_of : Receiver → Outcome Fate → Receiver
next_of r (done f) = holding r.p r.epoch f.left
next_of r (refused n) = r
