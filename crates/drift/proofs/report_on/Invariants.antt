use Rattle.drift.proofs.Runs.{Sofar}
use Rattle.drift.proofs.report_on.Given as goal

abbrev pub invariant-loop-place : goal.invariant-loop-place
invariant-loop-place l = Sofar l.fn.run l.rest l.place l.tally l.held
