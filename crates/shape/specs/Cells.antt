-- Lists of bytes under other names, for the file that reads quoted texts.
use Rattle.std.specs.Prelude.{List, [], ◌∷◌, ℕ}

abbrev pub nil : List ℕ
nil = []

abbrev pub cell : ℕ → List ℕ → List ℕ
cell a l = a ∷ l
