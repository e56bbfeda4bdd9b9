use Prim.Native.Nat.{◌-◌}
use native.Mathlib.Nat.{div-le_self, mod-lt}
use native.Mathlib.Omega.{arith}
use Rattle.drift.specs.Steps.{most}
use Rattle.drift.proofs.Wholes.{exact_below}
use Rattle.drift.proofs.MixedFromQuotient.from.Goals as goal

pub invariant_of-result : goal.invariant_of-result
invariant_of-result c =
    let q = c.args.quotient in
    let n = most - 1 - q.num in
    let m = mod-lt n {m = q.den} q.some in
    record {
      left = omega arith;
      exact = exact_below q.num q.den n _ _ (omega arith) (omega (arith, div-le_self n q.den)) (omega arith);
    }
