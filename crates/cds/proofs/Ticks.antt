-- The ticks of a T-field's fraction and the fraction of ticks, over any remainder's width: inverse, and the latter is the floor.
use mathlib.Core.Path.{◌≡◌, refl, ap, ◌∙◌}
use mathlib.Core.Bool.{Bool, true, false}
use Prim.Native.Nat.{ℕ, ◌+◌, ◌*◌, ◌/◌, ◌%◌, ◌<◌, ◌≤◌}
use native.Mathlib.Omega.{arith}
use borrow.Author.Tests.{ltb-true, ltb-false}
use lib.Dec.{ltb}
use Rattle.scale.specs.Time.{per_second}
use Rattle.scale.proofs.Fractions.{ticks_lt, part_lt, part_ticks, part_le, part_most}
use Rattle.cds.specs.Cds.{parts, per_millisecond, unit, fraction, remainder}
use Rattle.cds.proofs.Laws.{grain}

module _ (w : ℕ) where
  pub fraction_lt : (m p : ℕ) → p < parts w → fraction w m p < per_second
  fraction_lt m p h = omega (arith, ticks_lt (grain w) p h)

  -- the millisecond and the remainder come back
  pub fraction_back : (m p : ℕ) → p < parts w → (m / 1000 * 1000 + fraction w m p / per_millisecond ≡ m) × (remainder w (fraction w m p) ≡ p)
  fraction_back m p h =
      let x = ticks_lt (grain w) p h in
      let e : fraction w m p % per_millisecond ≡ p * unit w = omega (arith, x) in
      (omega (arith, x), ap (λ (n : ℕ). n / unit w) e ∙ part_ticks (grain w) p)

  pub remainder_lt : (k : ℕ) → remainder w k < parts w
  remainder_lt k = part_lt (grain w) (k % per_millisecond) (omega arith)

  -- taken downward, and as far up as whole parts reach: a later millisecond is later than all parts of this one
  pub floor_below : (k : ℕ) → k / per_millisecond * per_millisecond + remainder w k * unit w ≤ k
  floor_below k = omega (arith, part_le (grain w) (k % per_millisecond))

  pub floor_most : (k a p : ℕ) → p < parts w → a * per_millisecond + p * unit w ≤ k → a * per_millisecond + p * unit w ≤ k / per_millisecond * per_millisecond + remainder w k * unit w
  floor_most k a p h l = go (ltb a (k / per_millisecond)) refl
    where
      x : p * unit w < per_millisecond
      x = ticks_lt (grain w) p h

      go : (b : Bool) → ltb a (k / per_millisecond) ≡ b → a * per_millisecond + p * unit w ≤ k / per_millisecond * per_millisecond + remainder w k * unit w
      go true e = omega (arith, x, ltb-true a (k / per_millisecond) e)
      go false e =
          let q : a ≡ k / per_millisecond = omega (arith, l, ltb-false a (k / per_millisecond) e) in
          let r : p * unit w ≤ k % per_millisecond = omega (arith, l) in
          omega (arith, q, part_most (grain w) (k % per_millisecond) p r)
