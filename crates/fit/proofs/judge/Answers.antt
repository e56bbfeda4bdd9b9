use Rattle.fit.proofs.States.{goes_on}
use Rattle.fit.proofs.judge.Goals as goal

pub loop-i-preserved : goal.loop-i-preserved
loop-i-preserved c =
    rw c.from-state.ensures (goes_on c.loop-i.invariant c.at.result c.at.ensures c.loop-i-test.true c.next.result c.next.ensures c.in-Some.next c.in-Some.is)
