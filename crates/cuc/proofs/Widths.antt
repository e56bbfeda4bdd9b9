-- Powers of 256, and a second in parts of one.
use mathlib.Core.Path.{◌≡◌, refl}
use Prim.Native.Nat.{ℕ, zero, suc, ◌*◌, ◌^◌, ◌<◌, ◌≤◌}
use native.Mathlib.Nat.{one-le-pow, pow-le-pow_right, pow-suc, mul-suc}
use borrow.Author.Tests.{lt-ltb}
use lib.Dec.{lit<}
use lib.Pow.{pow-add}
use Rattle.base.proofs.Bools.{cond_yes}
use Rattle.scale.specs.Time.{per_second}
use Rattle.scale.proofs.Fractions.{Grain, grain_power}
use Rattle.octets.specs.Powers.{power_in}

pub power_pos : (k : ℕ) → 0 < 256 ^ k
power_pos k = one-le-pow k 256 (lit< tt)

pub power_le : (c d : ℕ) → c ≤ d → 256 ^ c ≤ 256 ^ d
power_le c d h = pow-le-pow_right (lit< tt) h

-- the code's table has it
pub power_in_lem : (k : ℕ) → k < 8 → power_in 256 8 k ≡ 256 ^ k
power_in_lem k h = cond_yes _ _ (lt-ltb k 8 h)

-- of k octets there are 8 k bits
pub power_bits : (k : ℕ) → 2 ^ (8 * k) ≡ 256 ^ k
power_bits zero = refl
power_bits (suc k) = rw (mul-suc, pow-add, power_bits k, pow-suc 256 k)

-- a second has 256 ^ 3 equal parts, and so it has any fewer octets of them
pub grain : (f : ℕ) → f ≤ 3 → Grain per_second (256 ^ f)
grain f h = grain_power {P = per_second} {b = 256} 3 f (lit< tt) h (record { some = lit< tt; all = refl })
