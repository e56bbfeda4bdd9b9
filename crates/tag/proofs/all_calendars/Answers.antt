use mathlib.Core.Path.{refl}
use Rattle.tag.specs.Forms.{days, months}
use Rattle.tag.proofs.all_calendars.Goals as goal

pub returns : goal.returns
unfolding days months
returns c = refl
