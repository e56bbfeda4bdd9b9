use mathlib.Core.Path.{◌≡◌, ap, ◌∙◌}
use lib.ListN.{take, drop}
use Rattle.std.proofs.Common.{rules, tests}
use Rattle.base.specs.Outcome.{done}
use Rattle.base.specs.Said.{said}
use Rattle.base.proofs.Passed.{passed_as}
use Rattle.tag.specs.Forms.{find}
use Rattle.seek.specs.declared.Clock.{Clock}
use Rattle.tag.specs.Tags.{fraction_as, daytime}
use Rattle.tag.specs.Inner.{form_as, forms_as, daytime_of}
use Rattle.tag.proofs.Times.{unzoned_bad, unzoned_done}
use Rattle.tag.proofs.unzoned.Goals.{After-fraction, In_ok-form}
use Rattle.tag.proofs.unzoned.Goals as goal

-- what the calls told of the form and of the fraction
own : (c : In_ok-form) → find (forms_as c.args.forms.now) (take c.until.result c.args.s.now) ≡ done (form_as c.in_ok-form.form)
own c = search (rules, tests)

part : (c : After-fraction) → fraction_as (form_as c.in_ok-form.form).third (drop c.until.result c.args.s.now) ≡ said c.fraction.result
part c = search (rules, tests)

pub returns-in_err-ticks : goal.returns-in_err-ticks
returns-in_err-ticks c =
    let g = goal.at.returns-in_err-ticks c in
    passed_as daytime_of _ _ c.from_residual-in_err-ticks.ensures.1
    ∙ unzoned_bad (forms_as c.args.forms.now) c.args.s.now c.until.result c.until.ensures.0 (form_as c.in_ok-form.form) (own g.In_ok-form) _ (part g.After-fraction ∙ ap said c.in_err-ticks.was)

pub returns : goal.returns
returns c =
    let g = goal.at.returns c in
    let n = c.in_ok-ticks.ticks in
    ap (λ (x : Clock). done (daytime x n)) (rw c.split_at.ensures.front at c.clock.ensures)
    ∙ unzoned_done (forms_as c.args.forms.now) c.args.s.now c.until.result c.until.ensures.0 (form_as c.in_ok-form.form) (own g.In_ok-form) n (part g.After-fraction ∙ ap said c.in_ok-ticks.was)
