use mathlib.Core.Path.{refl}
use Rattle.tag.specs.Forms.{days}
use Rattle.tag.proofs.days.Goals as goal

pub returns : goal.returns
unfolding days
returns c = refl
