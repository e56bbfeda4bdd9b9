-- An input fed in pieces, on paper.
use Rattle.std.specs.Prelude.{◌≡◌, List, [], ◌∷◌, ◌++◌, ℕ, ◌+◌, ◌*◌, ◌≤◌, length, drop}
use Rattle.leap.specs.Table.{Table}
use Rattle.lines.specs.Split.{fate, ending}

-- Calls one after another, p being the line so far: each is fed any front of what is left of the input, with any room; what it did not use stays; and at the input's end a call with room for an answer. w is all that they write.
pub data Run (t : Table) : List ℕ → List ℕ → List ℕ → Type 0 where
  last : {p w : List ℕ} (room : ℕ) → 80 ≤ room → w ≡ ending t p room → Run t p [] w
  more : {p s w : List ℕ} (piece left v : List ℕ) (room : ℕ) → s ≡ piece ++ left → w ≡ (fate t p piece room).wrote ++ v
      → Run t (fate t p piece room).held (drop (fate t p piece room).used piece ++ left) v → Run t p s w

-- pieces one after another, each fed once with the same room, and then the end
abbrev pub fed_all : Table → List ℕ → ℕ → List (List ℕ) → List ℕ
fed_all t p room [] = ending t p room
fed_all t p room (piece ∷ pieces) = (fate t p piece room).wrote ++ fed_all t (fate t p piece room).held room pieces

abbrev pub whole_of : List (List ℕ) → List ℕ
whole_of [] = []
whole_of (piece ∷ pieces) = piece ++ whole_of pieces

-- room enough for each piece, were each of its bytes a line feed
pub data Roomy (room : ℕ) : List (List ℕ) → Type 0 where
  none : 80 ≤ room → Roomy room []
  also : {piece : List ℕ} {pieces : List (List ℕ)} → 80 + 25 * length piece ≤ room → Roomy room pieces → Roomy room (piece ∷ pieces)
