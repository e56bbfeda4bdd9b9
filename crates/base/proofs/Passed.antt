-- What `?` hands on: the refusal that was handed to it.
use mathlib.Core.Path.{◌≡◌, ap, ◌∙◌}
use Rattle.std.specs.Prelude.{Result}
use Rattle.std.specs.Result.{IsErrAnd}
use Rattle.std.proofs.lemmas.Result.{err_from_is_err_and}
use Rattle.base.specs.Outcome.{refused}
use Rattle.base.specs.Refusals.{number}
use Rattle.base.specs.Said.{said, says}
use Rattle.base.specs.declared.Refusal.{Refusal}

pub passed : {A : Type 0} (r : Result A Refusal) (why : Refusal) → IsErrAnd r (λ x. x ≡ why) → said r ≡ refused (number why)
passed r why h = let p = err_from_is_err_and r h in ap said p.1 ∙ ap (λ (x : Refusal). refused (number x)) p.2

-- the same, where the paper has another form of the value
pub passed_as : {A B : Type 0} (f : A → B) (r : Result A Refusal) (why : Refusal) → IsErrAnd r (λ x. x ≡ why) → says f r ≡ refused (number why)
passed_as f r why h =
    let p = err_from_is_err_and r h in ap (says f) p.1 ∙ ap (λ (x : Refusal). refused (number x)) p.2
