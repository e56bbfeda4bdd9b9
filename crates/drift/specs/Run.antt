-- A run of pairs (document 02, request 1): "taking each neighbouring two, report the count for each refusal and of rates, and the smallest and largest rate, each with its first place among all neighbouring twos, from 0, or that there is no rate".
use Rattle.std.specs.Prelude.{Bool, true, false, cond, not, ◌&&◌, List, [], ◌∷◌, ◌≡◌, ℕ, suc, ◌<◌, eqb, get_or}
use Rattle.base.specs.Outcome.{Outcome, done, refused}
use Rattle.drift.specs.Fraction.{Fraction, below, above}
use Rattle.drift.specs.Rate.{Pair, quotient_of}

-- "each neighbouring two", in order: a pair with the one after it
unfoldable pub after : Pair → List Pair → List (Outcome Fraction)
after p [] = []
after p (q ∷ run) = quotient_of p q ∷ after q run

unfoldable pub twos : List Pair → List (Outcome Fraction)
twos [] = []
twos (p ∷ run) = after p run

-- "the count for each refusal and of rates"
abbrev pub is_rate : Outcome Fraction → Bool
is_rate (done f) = true
is_rate (refused n) = false

abbrev pub is_refusal : ℕ → Outcome Fraction → Bool
is_refusal n (done f) = false
is_refusal n (refused m) = eqb m n

unfoldable pub count : (Outcome Fraction → Bool) → List (Outcome Fraction) → ℕ
count test [] = 0
count test (o ∷ os) = cond (test o) (suc (count test os)) (count test os)

-- no rate among these beats f
unfoldable pub unbeaten : (Fraction → Fraction → Bool) → Fraction → List (Outcome Fraction) → Bool
unbeaten beats f [] = true
unbeaten beats f (done g ∷ os) = not (beats g f) && unbeaten beats f os
unbeaten beats f (refused n ∷ os) = unbeaten beats f os

-- a rate and its place, "or that there is no rate"
pub data Extreme : Type 0 where
  nothing : Extreme
  at : ℕ → Fraction → Extreme

-- the first rate that passes a test, with its place, counted from n on; refused twos are counted too
unfoldable pub first_rate : ℕ → (Fraction → Bool) → List (Outcome Fraction) → Extreme
first_rate n test [] = nothing
first_rate n test (done f ∷ os) = cond (test f) (at n f) (first_rate (suc n) test os)
first_rate n test (refused m ∷ os) = first_rate (suc n) test os

-- the first rate that no rate of all beats, with "its first place among all neighbouring twos, from 0"
unfoldable pub extreme_of : (Fraction → Fraction → Bool) → List (Outcome Fraction) → Extreme
extreme_of beats os = first_rate 0 (λ f. unbeaten beats f os) os

pub record Report : Type 0 where
  pub rates : ℕ
  -- refused 7, for either cause
  pub range : ℕ
  -- refused 10
  pub not_elapsed : ℕ
  -- refused 11
  pub off_grid : ℕ
  pub smallest : Extreme
  pub largest : Extreme

abbrev pub report_on : List (Outcome Fraction) → Report
report_on os =
    record {
      rates = count is_rate os;
      range = count (is_refusal 7) os;
      not_elapsed = count (is_refusal 10) os;
      off_grid = count (is_refusal 11) os;
      smallest = extreme_of below os;
      largest = extreme_of above os;
    }

abbrev pub report_of : List Pair → Report
report_of run = report_on (twos run)

-- ---- what an extreme is, place by place: a rate that no rate of all beats, and that beats each before it
pub record First (beats : Fraction → Fraction → Bool) (os : List (Outcome Fraction)) (p : ℕ) (b : Fraction) : Type 0 where
  pub there : get_or os p (refused 0) ≡ done b
  pub best : (i : ℕ) (f : Fraction) → get_or os i (refused 0) ≡ done f → beats f b ≡ false
  pub first : (i : ℕ) (f : Fraction) → i < p → get_or os i (refused 0) ≡ done f → beats b f ≡ true
