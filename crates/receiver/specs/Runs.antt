-- Calls one after another (document 02, request 2: "However a byte run is cut, given room, the answers must be those of reading it whole, one T-field after another").
use Rattle.std.specs.Prelude.{◌≡◌, List, [], ◌∷◌, ◌++◌, ℕ, ◌≤◌, length}
use Rattle.base.specs.Outcome.{Outcome, done, refused}
use Rattle.scale.specs.Time.{Time}
use Rattle.leap.specs.Table.{Table}
use Rattle.receiver.specs.Receiver.{Fate, feed_of, next_of}
use Rattle.receiver.specs.declared.Receiver.{Receiver}

-- a piece of the run, and the room for its answers
pub record Piece : Type 0 where
  pub bytes : List ℕ
  pub room : ℕ

-- the call with a piece
abbrev pub call_of : Table → Receiver → Piece → Outcome Fate
call_of t r p = feed_of t r p.bytes p.room

-- the answers that a call gives and the bytes that it takes: none of both where it is refused
abbrev pub told_by : Outcome Fate → List (Outcome Time)
told_by (done f) = f.answers
told_by (refused n) = []

abbrev pub taken_by : Outcome Fate → List ℕ → List ℕ
taken_by (done f) bytes = bytes
taken_by (refused n) bytes = []

-- calls one after another, each with the receiver that the one before handed back: the answers, the receiver after the last, and the bytes that were taken
abbrev pub told : Table → Receiver → List Piece → List (Outcome Time)
told t r [] = []
told t r (p ∷ ps) = told_by (call_of t r p) ++ told t (next_of r (call_of t r p)) ps

abbrev pub last : Table → Receiver → List Piece → Receiver
last t r [] = r
last t r (p ∷ ps) = last t (next_of r (call_of t r p)) ps

abbrev pub taken : Table → Receiver → List Piece → List ℕ
taken t r [] = []
taken t r (p ∷ ps) = taken_by (call_of t r p) p.bytes ++ taken t (next_of r (call_of t r p)) ps

-- the run of which these are the pieces
abbrev pub whole : List Piece → List ℕ
whole [] = []
whole (p ∷ ps) = p.bytes ++ whole ps

-- "given room": each call ends with a result
abbrev pub Roomy : Table → Receiver → List Piece → Type 0
Roomy t r [] = Unit {0}
Roomy t r (p ∷ ps) = ((f : Fate) × (call_of t r p ≡ done f)) × Roomy t (next_of r (call_of t r p)) ps

-- as many rows as the piece has bytes
abbrev pub Ample : List Piece → Type 0
Ample [] = Unit {0}
Ample (p ∷ ps) = (length p.bytes ≤ p.room) × Ample ps
