use Rattle.std.proofs.Common.{arith}
use Rattle.std.proofs.lemmas.Grind.{common_steps}
use Rattle.std.proofs.lemmas.Int.{to_z-of_z, ints}
use Rattle.base.specs.Parts.{within}
use Rattle.base.proofs.between.Goals as goal

pub returns : goal.returns
unfolding within
returns c = grind (arith, common_steps, to_z-of_z, ints)
