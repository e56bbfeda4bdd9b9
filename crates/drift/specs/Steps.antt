-- Elapsed times in steps of the grid, and their quotient. The code holds an elapsed time raised by the most, and never negative. No promise cites these.
use Rattle.std.specs.Prelude.{Bool, ◌&&◌, ℕ, ◌*◌, ◌-◌, ◌^◌, ℤ, pos, neg_ℤ, nat_abs, ◌*ℤ◌}
use Rattle.base.specs.Outcome.{Outcome, done, need}
use Rattle.base.specs.Parts.{within, lowered_by}
use Rattle.drift.specs.Fraction.{Fraction}
use Rattle.drift.specs.Rate.{step, passed}

-- the largest elapsed time: one step less than 2^32 s; and as far back
abbrev pub most : ℕ
most = 2 ^ 56 - 1

abbrev pub least : ℤ
least = neg_ℤ (pos most)

abbrev pub near : ℤ → Bool
near z = within least (pos most) z

-- a number of steps over another, as the fraction of their ticks
abbrev pub in_ticks : ℤ → ℕ → Fraction
in_ticks z d = record { num = z *ℤ pos step; den = d * step }

-- onboard steps, raised by the most, over ground steps
abbrev pub ratio : ℕ → ℕ → Fraction
ratio num den = in_ticks (lowered_by most num) den

-- the quotient of onboard and ground steps
unfoldable pub rated : ℤ → ℤ → Outcome Fraction
rated x y = need (near x && near y) 7 (need (passed y) 10 (done (in_ticks x (nat_abs y))))
