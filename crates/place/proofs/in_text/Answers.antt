use mathlib.Core.Path.{sym, ◌∙◌}
use Rattle.ascii.specs.Shapes.{code_shapes}
use Rattle.place.specs.Text.{code_fields, text_place}
use Rattle.place.proofs.Texts.{wrong_place, right_shape, right_place}
use Rattle.place.proofs.Codes.{code_fields_lem}
use Rattle.place.proofs.in_text.Goals as goal

pub returns-in-Err : goal.returns-in-Err
unfolding text_place
returns-in-Err c =
    wrong_place code_shapes code_fields c.args.s.now _ (sym c.code_fit.ensures ∙ c.in-Err.is)

pub returns-in-Ok : goal.returns-in-Ok
unfolding text_place
returns-in-Ok c =
    c.bad_field.ensures ∙ code_fields_lem c.args.s.now (right_shape code_shapes code_fields c.args.s.now (sym c.code_fit.ensures ∙ c.in-Ok.is)) ∙ right_place code_shapes code_fields c.args.s.now (sym c.code_fit.ensures ∙ c.in-Ok.is)
