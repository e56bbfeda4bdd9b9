-- Two outcomes of a listing by wanted fields that meet its statement are equal: the answer, and the lent list.
use mathlib.Core.List.{List}
use mathlib.Core.Path.{◌≡◌}
use Prim.Native.Nat.{ℕ}
use lib.IntN.{ℤ}
use Rattle.leap.specs.Builtin.{builtin}
use Rattle.window.specs.Window.{Lists}
use Rattle.window.proofs.Once.{lists_once}
use Rattle.seek.specs.Naming.{list_of}
use Rattle.seek.specs.declared.Wants.{Wants}
use Rattle.std.specs.Prelude.{Result}
use Rattle.base.specs.declared.Refusal.{Refusal}
use Rattle.window.specs.declared.Listed.{Listed}

pub list_once : (g : Wants) (from to : ℕ) (entry exit exit' : List ℤ) (r r' : Result Listed Refusal) → Lists (list_of builtin g from to) entry exit r → Lists (list_of builtin g from to) entry exit' r' → (r ≡ r') × (exit ≡ exit')
list_once g from to = lists_once (list_of builtin g from to)
