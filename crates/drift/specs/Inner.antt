-- What the private functions answer. The laws of proofs/ carry that to the definitions of Rate and Run. No promise cites these.
use Rattle.std.specs.Prelude.{◌≡◌, Bool, true, false, cond, ◌&&◌, ℕ, ◌+◌, ◌/◌, ◌^◌, ℤ, pos, ◌+ℤ◌, ◌-ℤ◌, ◌*ℤ◌, Result, Option, Ok, Err, Some, None}
use Rattle.base.specs.Outcome.{Outcome, done, refused}
use Rattle.base.specs.Parts.{At, lowered_by}
use Rattle.scale.specs.Time.{Time}
use Rattle.drift.specs.Fraction.{Fraction, below, above}
use Rattle.drift.specs.Rate.{Pair, step}
use Rattle.drift.specs.Run.{Extreme, nothing, at, Report, is_rate, is_refusal}
use Rattle.drift.specs.Steps.{most, near, ratio}
use Rattle.drift.specs.declared.NoRate.{NoRate}
use Rattle.drift.specs.declared.NoRate.TheVariants.{OutOfRange, NotElapsed, OffGrid}
use Rattle.drift.specs.declared.Mark.{Mark}
use Rattle.drift.specs.declared.Marks.{Marks}
use Rattle.drift.specs.declared.Quotient.{Quotient}
use Rattle.drift.specs.declared.Best.{Best}
use Rattle.drift.specs.declared.Tally.{Tally}

abbrev pub number_for : NoRate → ℕ
number_for OutOfRange = 7
number_for NotElapsed = 10
number_for OffGrid = 11

-- ---- a pair, judged
abbrev pub of_both : (Time → Bool) → Pair → Bool
of_both test p = test p.onboard && test p.ground

-- a record's seconds, raised by 2^63, and its whole steps after them
pub record Marked (t : Time) (m : Mark) : Type 0 where
  pub seconds : At (2 ^ 63) m.sec t.sec
  pub steps : m.steps ≡ t.ticks / step

-- where a pair of records stands
pub record Stands (p : Pair) (m : Marks) : Type 0 where
  pub onboard : Marked p.onboard m.onboard
  pub ground : Marked p.ground m.ground

-- ---- elapsed times
-- all steps of a mark, and those from one to another
abbrev pub steps_of : Mark → ℤ
steps_of m = lowered_by (2 ^ 63) m.sec *ℤ pos (2 ^ 24) +ℤ pos m.steps

abbrev pub apart : Mark → Mark → ℤ
apart x y = steps_of y -ℤ steps_of x

-- steps that are not too many, raised by the most
abbrev pub Elapses : ℤ → Option ℕ → Type 0
Elapses z (Some n) = (near z ≡ true) × At most n z
Elapses z None = near z ≡ false

-- ---- a quotient
abbrev pub quotient_as : Quotient → Fraction
quotient_as q = ratio q.num q.den

abbrev pub says_quotient : Result Quotient NoRate → Outcome Fraction
says_quotient (Ok q) = done (quotient_as q)
says_quotient (Err why) = refused (number_for why)

-- ---- a run so far
abbrev pub says_best : Option Best → Extreme
says_best None = nothing
says_best (Some b) = at b.place (quotient_as b.rate.quotient)

abbrev pub says_tally : Tally → Report
says_tally t =
    record {
      rates = t.rates;
      range = t.range;
      not_elapsed = t.not_elapsed;
      off_grid = t.off_grid;
      smallest = says_best t.smallest;
      largest = says_best t.largest;
    }

-- how many twos it has come to
abbrev pub counted : Tally → ℕ
counted t = t.rates + t.range + t.not_elapsed + t.off_grid

abbrev pub none_of : Report
none_of = record { rates = 0; range = 0; not_elapsed = 0; off_grid = 0; smallest = nothing; largest = nothing }

-- what is held gives way to a rate that beats it
abbrev pub kept : (Fraction → Fraction → Bool) → Extreme → ℕ → Outcome Fraction → Extreme
kept beats e place (refused n) = e
kept beats nothing place (done f) = at place f
kept beats (at p b) place (done f) = cond (beats f b) (at place f) (at p b)

-- one more where the test holds
abbrev pub more : Bool → ℕ → ℕ
more true n = n + 1
more false n = n

-- with the outcome of one two more
abbrev pub noted_of : Report → ℕ → Outcome Fraction → Report
noted_of x place o =
    record {
      rates = more (is_rate o) x.rates;
      range = more (is_refusal 7 o) x.range;
      not_elapsed = more (is_refusal 10 o) x.not_elapsed;
      off_grid = more (is_refusal 11 o) x.off_grid;
      smallest = kept below x.smallest place o;
      largest = kept above x.largest place o;
    }
