-- The bytes of a quoted text.
use Rattle.std.specs.Prelude.{List, ℕ}
use Prim.Native.Char.{code}
use Prim.Native.String.{String, [], ◌∷◌}
use Rattle.shape.specs.Cells.{nil, cell}

abbrev pub bytes : String → List ℕ
bytes [] = nil
bytes (c ∷ s) = cell (code c) (bytes s)
