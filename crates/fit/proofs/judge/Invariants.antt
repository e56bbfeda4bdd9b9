use Rattle.fit.specs.Inner.{permitted}
use Rattle.fit.proofs.States.{Walk}
use Rattle.fit.proofs.judge.Given as goal

abbrev pub invariant-loop-i : goal.invariant-loop-i
invariant-loop-i l = Walk l.s (permitted l.start) l.state l.i
