use mathlib.Core.Path.{refl}
use Rattle.tag.specs.Forms.{hours, minutes}
use Rattle.tag.proofs.all_times.Goals as goal

pub returns : goal.returns
unfolding hours minutes
returns c = refl
