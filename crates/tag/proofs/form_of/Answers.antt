use mathlib.Core.Path.{ap, ◌∙◌}
use Rattle.std.proofs.Common.{rules, tests}
use Rattle.tag.specs.Inner.{found}
use Rattle.std.proofs.lemmas.Iterator.{YieldsList-from_slice}
use Rattle.std.proofs.lemmas.Iterator.Search.{find_from_yields_List}
use Rattle.shape.specs.Shapes.{fits}
use Rattle.tag.proofs.Rows.{finds}
use Rattle.tag.proofs.form_of.Goals as goal

pub returns : goal.returns
returns c =
    let a = c.args in
    ap found (c.copied.ensures ∙ find_from_yields_List (λ f. fits f.0.now a.s.now) _ _ c.find.result c.find.ensures.ran (YieldsList-from_slice a.forms.now cc) (λ x b q k. search (rules, tests)))
    ∙ finds a.forms.now a.s.now
