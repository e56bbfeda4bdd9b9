use mathlib.Core.Path.{◌≡◌, refl, sym}
use Prim.Native.Nat.{ℕ, zero, suc, ◌+◌, ◌*◌, ◌^◌, ◌<◌}
use native.Mathlib.Nat.{one-mul, pow-suc, mod-eq_of_lt}
use native.Mathlib.Omega.{arith}
use borrow.Author.Tests.{lt-ltb}
use Rattle.std.proofs.lemmas.Nat.{pow-add, pow_below}
use Rattle.base.proofs.Bools.{cond_yes}
use Rattle.octets.proofs.power256.Goals as goal

by_bits : (k : ℕ) → 2 ^ (8 * k) ≡ 256 ^ k
by_bits zero = refl
by_bits (suc k) = let e : 8 * suc k ≡ 8 * k + 8 = omega arith in rw (e, pow-add 2 (8 * k) 8, by_bits k, pow-suc 256 k)

pub returns-then-k-lt8 : goal.returns-then-k-lt8
returns-then-k-lt8 c =
    let k = c.args.k in
    let l : 2 ^ (8 * k) < 2 ^ 64 = pow_below (8 * k) 64 (omega arith) in
    rw (one-mul, mod-eq_of_lt l, by_bits k) (sym (cond_yes (256 ^ k) 0 (lt-ltb k 8 (omega arith))))
