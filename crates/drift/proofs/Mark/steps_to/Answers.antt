use native.Mathlib.Omega.{arith}
use Rattle.drift.proofs.Apart.{in_between}
use Rattle.drift.proofs.Mark.steps_to.Goals as goal

pub returns : goal.returns
returns c = in_between c.args.self c.args.to _ (omega arith) (omega arith)
