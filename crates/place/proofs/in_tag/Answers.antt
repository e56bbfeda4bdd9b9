use mathlib.Core.Path.{sym, ◌∙◌}
use Rattle.tag.specs.Forms.{tag_shapes}
use Rattle.tag.specs.Fields.{fields_of}
use Rattle.place.specs.Text.{tag_place}
use Rattle.place.proofs.Texts.{wrong_place, right_place}
use Rattle.place.proofs.in_tag.Goals as goal

pub returns-in-Err : goal.returns-in-Err
unfolding tag_place
returns-in-Err c =
    wrong_place tag_shapes fields_of c.args.s.now _ (sym c.tag_fit.ensures ∙ c.in-Err.is)

pub returns-in-Ok : goal.returns-in-Ok
unfolding tag_place
returns-in-Ok c =
    c.bad_field.ensures ∙ right_place tag_shapes fields_of c.args.s.now (sym c.tag_fit.ensures ∙ c.in-Ok.is)
