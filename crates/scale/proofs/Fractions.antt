-- A second of P ticks in n equal parts, each a whole number of ticks: the ticks of some parts, and the parts of some ticks taken downward. One law of each, whatever P and n.
use mathlib.Core.Path.{◌≡◌, sym, ap, ◌∙◌}
use Prim.Native.Nat.{ℕ, ◌+◌, ◌*◌, ◌-◌, ◌/◌, ◌^◌, ◌<◌, ◌≤◌}
use native.Mathlib.Nat.{one-le-pow, mul_assoc, mul_comm, mul-pos, mul-lt-mul_of_pos_right, mul-le-mul_right, mul-div_cancel, le-div_iff_mul-le, div-lt_iff_lt-mul, div-mul-le_self}
use native.Mathlib.Omega.{arith}
use lib.Pow.{pow-add}

-- n parts, none of them empty
pub record Grain (P n : ℕ) : Type 0 where
  pub some : 0 < P / n
  pub all : n * (P / n) ≡ P

grain_of : (P n u : ℕ) → 0 < n → 0 < u → n * u ≡ P → Grain P n
grain_of P n u h k e =
    let q : P / n ≡ u = ap (λ (x : ℕ). x / n) (sym e ∙ mul_comm n u) ∙ mul-div_cancel u h in
    record { some = rw q k; all = rw q e }

-- a power's parts, where a higher power has them
pub grain_power : {P b : ℕ} (W w : ℕ) → 0 < b → w ≤ W → Grain P (b ^ W) → Grain P (b ^ w)
grain_power {P} {b} W w h l g =
    let q : w + (W - w) ≡ W = omega arith in
    let u = b ^ (W - w) * (P / b ^ W) in
    let e : b ^ w * u ≡ P = sym (mul_assoc (b ^ w) (b ^ (W - w)) (P / b ^ W)) ∙ ap (λ (x : ℕ). x * (P / b ^ W)) (sym (pow-add b w (W - w)) ∙ ap (λ (x : ℕ). b ^ x) q) ∙ g.all in
    grain_of P (b ^ w) u (one-le-pow w b h) (mul-pos (one-le-pow (W - w) b h) g.some) e

module _ {P n : ℕ} (g : Grain P n) where
  -- fewer than n parts are less than a second
  pub ticks_lt : (f : ℕ) → f < n → f * (P / n) < P
  ticks_lt f h = rw g.all at (mul-lt-mul_of_pos_right h g.some)

  -- and less than a second is fewer than n parts
  pub part_lt : (k : ℕ) → k < P → k / (P / n) < n
  part_lt k h = (div-lt_iff_lt-mul g.some).1 (rw g.all h)

  -- parts come back from their ticks
  pub part_ticks : (f : ℕ) → f * (P / n) / (P / n) ≡ f
  part_ticks f = mul-div_cancel f g.some

  -- downward
  pub part_le : (k : ℕ) → k / (P / n) * (P / n) ≤ k
  part_le k = div-mul-le_self k (P / n)

  -- and as far up as whole parts reach
  pub part_most : (k f : ℕ) → f * (P / n) ≤ k → f * (P / n) ≤ k / (P / n) * (P / n)
  part_most k f h = mul-le-mul_right (P / n) ((le-div_iff_mul-le g.some).1 h)
