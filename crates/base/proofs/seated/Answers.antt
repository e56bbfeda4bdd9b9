use Rattle.std.proofs.Common.{arith}
use Rattle.std.proofs.lemmas.Grind.{common_steps}
use Rattle.std.proofs.lemmas.Int.{to_z-of_z}
use Rattle.base.specs.Seats.{seat_of}
use Rattle.base.proofs.seated.Goals as goal

pub returns-then-between : goal.returns-then-between
unfolding seat_of
returns-then-between c = grind (arith, common_steps, to_z-of_z)

pub returns-else-between : goal.returns-else-between
unfolding seat_of
returns-else-between c = grind (arith, common_steps, to_z-of_z)
