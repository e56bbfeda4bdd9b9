-- Seconds raised by a bias and lowered again.
use mathlib.Core.Path.{◌≡◌}
use Prim.Native.Nat.{ℕ, ◌≤◌}
use native.Mathlib.Omega.{arith}
use lib.IntN.{ℤ}
use Rattle.base.specs.Parts.{minus, At, lowered_by}
use Rattle.base.proofs.Signed.{apart, lower_is, lower_at}
use Rattle.window.specs.Seconds.{raised_by}

module _ (B : ℕ) where
  pub raised_at : (z : ℤ) → minus z ≤ B → At B (raised_by B z) z
  raised_at z h = omega arith

  pub lowered_from : (x : ℕ) → minus (lowered_by B x) ≤ B
  lowered_from x = omega (arith, lower_is B x, apart (lowered_by B x))

  pub raised_lowered : (x : ℕ) → raised_by B (lowered_by B x) ≡ x
  raised_lowered x = omega (arith, lower_is B x, apart (lowered_by B x))

  pub lowered_raised : (z : ℤ) → minus z ≤ B → lowered_by B (raised_by B z) ≡ z
  lowered_raised z h = lower_at B (raised_by B z) z (raised_at z h)
