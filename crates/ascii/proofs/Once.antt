-- Two answers that meet a contract are one. `size` and `is_layout` promise an equation `r ≡ ..`, which is this already.
use mathlib.Core.Path.{◌≡◌}
use mathlib.Core.List.{List}
use Prim.Native.Nat.{ℕ}
use Rattle.base.proofs.Once.{said_once}
use Rattle.moment.specs.declared.Moment.{Moment}
use Rattle.ascii.specs.Ascii.{text}
use Rattle.base.specs.Said.{said}
use Rattle.std.specs.Prelude.{Result}
use Rattle.base.specs.declared.Refusal.{Refusal}

pub read_once : (s : List ℕ) (a b : Result Moment Refusal) → said a ≡ text s → said b ≡ text s → a ≡ b
read_once s a b p q = said_once (text s) a b p q
