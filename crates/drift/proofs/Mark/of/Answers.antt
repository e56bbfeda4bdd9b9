-- A record's seconds stand near 2^63 when they are raised.
use Prim.Native.Nat.{◌^◌}
use native.Mathlib.Omega.{arith}
use lib.Dec.{lit<}
use Rattle.base.proofs.Signed.{apart}
use Rattle.scale.specs.Answers.{recorded}
use Rattle.scale.proofs.Laws.{good_within}
use Rattle.drift.proofs.Mark.of.Goals as goal

pub invariant_of-result : goal.invariant_of-result
invariant_of-result c =
    let w = good_within (2 ^ 41) (recorded c.args.r) (lit< tt) c.requires.record in
    record { low = omega (arith, apart c.args.r.sec); high = omega (arith, apart c.args.r.sec); few = omega (arith, c.requires.whole) }
