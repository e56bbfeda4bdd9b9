-- Both sides divided by their greatest common divisor; the onboard steps are carried from 0 raised.
use mathlib.Core.Path.{◌≡◌}
use native.Mathlib.Nat.{div-le_self}
use native.Mathlib.Omega.{arith}
use borrow.Author.Rules.{rules}
use mir.Syntax.{w64}
use mir.Val.{to_z, of_z}
use Rattle.drift.proofs.Terms.{size_is, shrunk_below, shrunk_above, lowest_ratio}
use Rattle.drift.proofs.Quotient.lowest.Goals.{then-self-lt-MOST, else-self-lt-MOST}
use Rattle.drift.proofs.Quotient.lowest.Goals as goal

pub returns : goal.returns
returns c =
    let q = c.args.self in
    let n = c.abs_diff-size in
    let g = c.gcd-divisor in
    let z = c.lowered.result in
    let h = rw (n.ensures, size_is q.num) at g.ensures in
    let e : to_z w64 (of_z w64 z) ≡ z = search rules in
    lowest_ratio q.num q.den g.result _ q.some h
    (rw e (elim c.if-self-lt-MOST.branch [
      | then-self-lt-MOST w ↦ shrunk_below q.num g.result n.result z h.0 (omega (arith, n.ensures)) (omega (arith, c.raised-zero.ensures, c.lowered.ensures, div-le_self n.result g.result, n.ensures))
      | else-self-lt-MOST w ↦ shrunk_above q.num g.result n.result z h.0 (omega (arith, n.ensures)) (omega (arith, c.raised-zero.ensures, c.lowered.ensures))
    ]))
