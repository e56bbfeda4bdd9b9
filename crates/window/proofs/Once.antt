-- Two outcomes of a listing that meet its statement are equal: the answer, and the lent list.
use mathlib.Core.List.{List}
use mathlib.Core.Path.{◌≡◌, sym, ◌∙◌}
use Rattle.std.specs.Prelude.{Result}
use Rattle.base.specs.Outcome.{Outcome, given}
use Rattle.base.specs.declared.Refusal.{Refusal}
use Rattle.base.proofs.Once.{said_once}
use Rattle.window.specs.Window.{Named, listed, Lists}
use Rattle.window.specs.declared.Listed.{Listed}

pub lists_once : {A : Type 0} (x : Outcome (Named A)) (entry exit exit' : List A) (r r' : Result Listed Refusal) → Lists x entry exit r → Lists x entry exit' r' → (r ≡ r') × (exit ≡ exit')
lists_once x entry exit exit' r r' p q =
    (said_once (given (listed entry) x) r r' p.outcome q.outcome, p.memory ∙ sym q.memory)
