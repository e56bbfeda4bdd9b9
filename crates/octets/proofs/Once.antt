-- Two answers that meet a contract are one. Reading, the powers and `fits` promise an equation `r ≡ ..`, which is this already.
use mathlib.Core.Path.{◌≡◌, sym, ◌∙◌}
use mathlib.Core.Bool.{Bool}
use mathlib.Core.List.{List}
use Prim.Native.Nat.{ℕ}
use Rattle.octets.specs.Stores.{Stored}

pub stored_once : (text : List ℕ) (at : ℕ) (old x y : List ℕ) (q r : Bool) → Stored text at old x q → Stored text at old y r → (x ≡ y) × (q ≡ r)
stored_once text at old x y q r f g = (f.bytes ∙ sym g.bytes, f.answer ∙ sym g.answer)
