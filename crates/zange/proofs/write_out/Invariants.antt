use Rattle.std.proofs.Common.{length, ◌+◌}
use Rattle.zange.proofs.write_out.Given as goal

abbrev pub decreases-loop-rest : goal.decreases-loop-rest
decreases-loop-rest g l = length l.rest + l.tries
