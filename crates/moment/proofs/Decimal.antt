-- Decimal fractions: a second is a whole number of parts of up to 12 digits, and parts of 20 are less than a tick.
use mathlib.Core.Path.{◌≡◌, refl, sym, ap, ◌∙◌}
use Prim.Native.Nat.{ℕ, ◌+◌, ◌-◌, ◌*◌, ◌/◌, ◌^◌, ◌<◌, ◌≤◌}
use native.Mathlib.Nat.{one-le-pow, div-lt_iff_lt-mul}
use native.Mathlib.Omega.{arith}
use borrow.Author.Tests.{lt-ltb}
use lib.Dec.{lit<}
use lib.Pow.{pow-add}
use Rattle.base.proofs.Bools.{cond_yes}
use Rattle.scale.specs.Time.{per_second}
use Rattle.scale.proofs.Fractions.{Grain, grain_power}
use Rattle.octets.specs.Powers.{power_in}

pub grain : (d : ℕ) → d ≤ 12 → Grain per_second (10 ^ d)
grain d h = grain_power {P = per_second} {b = 10} 12 d (lit< tt) h (record { some = lit< tt; all = refl })

pub power_is : (d : ℕ) → d < 20 → power_in 10 20 d ≡ 10 ^ d
power_is d h = cond_yes _ _ (lt-ltb d 20 h)

pub power_some : (d : ℕ) → 0 < 10 ^ d
power_some d = one-le-pow d 10 (lit< tt)

pub too_fine : (d : ℕ) → 20 ≤ d → 0 ≡ per_second / 10 ^ d
too_fine d h =
    let q : 20 + (d - 20) ≡ d = omega arith in
    let e : 10 ^ 20 * 10 ^ (d - 20) ≡ 10 ^ d = sym (pow-add 10 20 (d - 20)) ∙ ap (λ (x : ℕ). 10 ^ x) q in
    let l : per_second < 1 * 10 ^ d = omega (arith, e, power_some (d - 20)) in
    let z : per_second / 10 ^ d < 1 = (div-lt_iff_lt-mul (power_some d)).1 l in
    omega arith
