-- What the code's values say on paper, and what the calls promise.
use Rattle.std.specs.Prelude.{◌≡◌, List, [], ◌∷◌, ◌++◌, ℕ, zero, suc, ◌≤◌, min, length, take, drop}
use Rattle.lines.specs.Split.{Fate}
use Rattle.lines.specs.declared.Line.{Line}
use Rattle.lines.specs.declared.Fed.{Fed}

-- the first n bytes of a text, with zeros after its end
abbrev pub fill : ℕ → List ℕ → List ℕ
fill zero p = []
fill (suc n) [] = 0 ∷ fill n []
fill (suc n) (b ∷ p) = b ∷ fill n p

-- the line that holds a text of at most 65 bytes
abbrev pub line_of : List ℕ → Line
line_of p = record { bytes = fill 65 p; len = length p }

-- the text that a line holds, whatever stands in it
abbrev pub held_of : Line → List ℕ
held_of l = take (min l.len 65) l.bytes

abbrev pub fed_of : Fate → Fed
fed_of f = record { line = line_of f.held; wrote = length f.wrote; used = f.used }

-- a text over the first bytes of the lent ones; the later ones stay
abbrev pub over : List ℕ → List ℕ → List ℕ
over text old = text ++ drop (length text) old

-- The answer and the lent bytes, given what the piece comes to. The last three follow from these, and are what a caller's slices ask.
pub record Fares (f : Fate) (piece old new : List ℕ) (r : Fed) : Type 0 where
  pub answer : r ≡ fed_of f
  pub bytes : new ≡ over f.wrote old
  pub used_in : r.used ≤ length piece
  pub wrote_in : r.wrote ≤ length new
  pub wrote_all : r.wrote ≡ length (take r.wrote new)

-- the same of the input's end, given the text that is written
pub record Ends (text old new : List ℕ) (r : ℕ) : Type 0 where
  pub answer : r ≡ length text
  pub bytes : new ≡ over text old
  pub wrote_in : r ≤ length new
  pub wrote_all : r ≡ length (take r new)
