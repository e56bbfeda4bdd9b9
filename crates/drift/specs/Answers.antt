-- What each answer of the code says on paper, and what it owes to the definitions.
use Rattle.std.specs.Prelude.{◌≡◌, List, ℤ, pos, get_or, Result, Option, Some, None}
use Rattle.base.specs.Outcome.{Outcome, done, refused}
use Rattle.base.specs.Parts.{bits_of}
use Rattle.base.specs.Said.{says}
use Rattle.scale.specs.Answers.{recorded}
use Rattle.drift.specs.Fraction.{Fraction, Lowest}
use Rattle.drift.specs.Rate as P
use Rattle.drift.specs.Run as R
use Rattle.drift.specs.Run.{nothing, at}
use Rattle.drift.specs.declared.Pair.{Pair}
use Rattle.drift.specs.declared.Rate.{Rate}
use Rattle.drift.specs.declared.Extreme as E
use Rattle.drift.specs.declared.Report.{Report}
use Rattle.base.specs.declared.Refusal.{Refusal}

abbrev pub paired : Pair → P.Pair
paired p = P.pair_of (recorded p.onboard) (recorded p.ground)

-- a row of four signed numbers: onboard seconds and ticks, ground seconds and ticks. Ticks are read without a sign
abbrev pub pair_in : List ℤ → P.Pair
pair_in row =
    P.pair_of (record { sec = get_or row 0 (pos 0); ticks = bits_of (get_or row 1 (pos 0)) })
    (record { sec = get_or row 2 (pos 0); ticks = bits_of (get_or row 3 (pos 0)) })

abbrev pub fraction : Rate → Fraction
fraction r = record { num = r.num; den = r.den }

abbrev pub says_rate : Result Rate Refusal → Outcome Fraction
says_rate r = says fraction r

-- a rate is the quotient in lowest terms, and a refusal the quotient's own
abbrev pub Rates : Outcome Fraction → Outcome Fraction → Type 0
Rates (done q) (done f) = Lowest q f
Rates (done q) (refused n) = ⊥
Rates (refused m) (done f) = ⊥
Rates (refused m) (refused n) = m ≡ n

-- what a rate's two cells hold afterwards: the quotient in lowest terms, or, after a refusal, what they held
abbrev pub Lowered : Outcome Fraction → Fraction → Fraction → Type 0
Lowered (done q) old new = Lowest q new
Lowered (refused n) old new = new ≡ old

abbrev pub says_extreme : Option E.Extreme → R.Extreme
says_extreme None = nothing
says_extreme (Some x) = at x.place (fraction x.rate)

-- an extreme is told with its place, and in lowest terms
abbrev pub Shows : R.Extreme → R.Extreme → Type 0
Shows nothing nothing = Unit {0}
Shows nothing (at n f) = ⊥
Shows (at p q) nothing = ⊥
Shows (at p q) (at n f) = (n ≡ p) × Lowest q f

pub record Reports (x : R.Report) (r : Report) : Type 0 where
  pub rates : r.rates ≡ x.rates
  pub range : r.range ≡ x.range
  pub not_elapsed : r.not_elapsed ≡ x.not_elapsed
  pub off_grid : r.off_grid ≡ x.off_grid
  pub smallest : Shows x.smallest (says_extreme r.smallest)
  pub largest : Shows x.largest (says_extreme r.largest)
