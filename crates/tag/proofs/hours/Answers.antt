use mathlib.Core.Path.{refl}
use Rattle.tag.specs.Forms.{hours}
use Rattle.tag.proofs.hours.Goals as goal

pub returns : goal.returns
unfolding hours
returns c = refl
