use Rattle.octets.proofs.Counts.{Read}
use Rattle.octets.proofs.read.Given as goal

-- n is what the elements so far write
abbrev pub invariant-loop-x : goal.invariant-loop-x
invariant-loop-x g l =
    let p = g.P.Place in Read p.BASE p.value p.good p.WIDEST l.s l.at l.w l.n l.x-index
