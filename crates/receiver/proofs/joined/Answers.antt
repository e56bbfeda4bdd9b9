use native.Mathlib.Omega.{arith}
use Rattle.receiver.proofs.Pads.{goes_on, ends}
use Rattle.receiver.proofs.joined.Goals as goal

pub loop-i-preserved : goal.loop-i-preserved
loop-i-preserved g c =
    goes_on c.loop-i.invariant c.octet_at.result (omega (arith, c.loop-i.invariant.size)) c.octet_at.ensures

pub returns : goal.returns
returns g c = ends c.loop-i.invariant (omega (arith, c.loop-i.invariant.size))
