-- From one mark to another, in steps of the grid: too early, too late, or in between.
use mathlib.Core.Path.{◌≡◌}
use mathlib.Core.Bool.{true, false}
use Prim.Native.Nat.{ℕ, ◌+◌, ◌*◌, ◌^◌, ◌≤◌}
use native.Mathlib.Omega.{arith}
use lib.IntN.{pos}
use Rattle.base.specs.Parts.{At, plus, minus, lowered_by}
use Rattle.base.proofs.Signed.{line, difference, lower_is, neg_plus, neg_minus, within_yes, within_under, within_over}
use Rattle.drift.specs.Steps.{most, least, near}
use Rattle.drift.specs.Inner.{steps_of, apart}
use Rattle.drift.specs.declared.Mark.{Mark}

abbrev total : Mark → ℕ
total m = m.sec * 2 ^ 24 + m.steps

module _ (x y : Mark) where
  parts : plus (apart x y) + total x ≡ minus (apart x y) + total y
  parts =
      omega (
        arith,
        difference (steps_of y) (steps_of x),
        line (lowered_by (2 ^ 63) x.sec) (2 ^ 24) x.steps,
        line (lowered_by (2 ^ 63) y.sec) (2 ^ 24) y.steps,
        lower_is (2 ^ 63) x.sec,
        lower_is (2 ^ 63) y.sec,
      )

  pub too_early : total y + 2 ^ 56 ≤ total x → near (apart x y) ≡ false
  too_early h = within_under least (pos most) (apart x y) (omega (arith, parts, neg_plus (pos most), neg_minus (pos most)))

  pub too_late : total x + 2 ^ 56 ≤ total y → near (apart x y) ≡ false
  too_late h = within_over least (pos most) (apart x y) (omega (arith, parts))

  pub in_between : (n : ℕ) → n + total x ≡ total y + most → n ≤ 2 * most → (near (apart x y) ≡ true) × At most n (apart x y)
  in_between n e h = (
    within_yes least (pos most) (apart x y) (omega (arith, parts, neg_plus (pos most), neg_minus (pos most))) (omega (arith, parts)),
    omega (arith, parts),
  )
