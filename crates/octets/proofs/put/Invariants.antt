use Prim.Native.Nat.{◌-◌}
use Rattle.octets.proofs.Turns.{Write}
use Rattle.octets.proofs.put.Given as goal

-- what is left is written by the places before i-end
abbrev pub invariant-loop-i : goal.invariant-loop-i
invariant-loop-i g l =
    let p = g.P.Place in Write p.BASE p.element l.initial.out l.at l.w l.n l.out l.left (l.i - l.at)
