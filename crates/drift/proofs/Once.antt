-- Two answers that meet the statement are the same: lowest terms are one fraction.
use mathlib.Core.Path.{◌≡◌, refl, sym, ap, ◌∙◌}
use mathlib.Core.List.{List}
use Prim.Native.Nat.{ℕ, ◌<◌}
use Rattle.base.specs.Outcome.{Outcome, done, refused}
use Rattle.base.proofs.Once.{once, says_once}
use Rattle.scale.specs.Time.{Time}
use Rattle.scale.specs.Answers.{Record}
use Rattle.drift.specs.Fraction.{Fraction, below, above}
use Rattle.drift.specs.Rate.{Pair, quotient_of}
use Rattle.drift.specs.Run.{nothing, at, twos, report_of}
use Rattle.drift.specs.Run as R
use Rattle.drift.specs.Answers.{paired, fraction, says_rate, Rates, says_extreme, Shows, Reports}
use Rattle.drift.specs.declared.Pair as P
use Rattle.drift.specs.declared.Rate.{Rate}
use Rattle.drift.specs.declared.Extreme as E
use Rattle.drift.specs.declared.Report.{Report}
use Rattle.drift.proofs.Terms.{lowest_once}
use Rattle.drift.proofs.Tallies.{quotient_some, twos_some}
use Rattle.drift.proofs.Extremes.{extreme_is}
use Rattle.std.specs.Prelude.{Result, Option, Some, None}
use Rattle.base.specs.declared.Refusal.{Refusal}

-- ---- a pair
abbrev clocked : Time → Record
clocked t = record { sec = t.sec; ticks = t.ticks }

pub pair_once : (x : Pair) (p q : P.Pair) → paired p ≡ x → paired q ≡ x → p ≡ q
pair_once = once paired (λ x. record { onboard = clocked x.onboard; ground = clocked x.ground }) (λ p. refl)

answer_of_lem : (o : Outcome Fraction) (a b : Result Rate Refusal) → says_rate a ≡ o → says_rate b ≡ o → a ≡ b
answer_of_lem =
    says_once fraction (λ f. record { num = f.num; den = f.den }) (λ r. refl)

-- ---- a rate
rated : (x o o' : Outcome Fraction) → ((q : Fraction) → x ≡ done q → 0 < q.den) → Rates x o → Rates x o' → o ≡ o'
rated (done q) (done f) (done g) z l m = ap done (lowest_once q f g (z q refl) l m)
rated (done q) (done f) (refused n) z l m = absurd m
rated (done q) (refused n) o' z l m = absurd l
rated (refused n) (done f) o' z l m = absurd l
rated (refused n) (refused m) (done g) z l k = absurd k
rated (refused n) (refused m) (refused k) z l e = ap refused (sym l ∙ e)

pub rate_once : (p q : Pair) (a b : Result Rate Refusal) → Rates (quotient_of p q) (says_rate a) → Rates (quotient_of p q) (says_rate b) → a ≡ b
rate_once p q a b l m = answer_of_lem (says_rate b) a b (rated (quotient_of p q) (says_rate a) (says_rate b) (quotient_some p q) l m) refl

-- ---- a report
extreme_of_lem : (x : R.Extreme) (a b : Option E.Extreme) → says_extreme a ≡ x → says_extreme b ≡ x → a ≡ b
extreme_of_lem =
    once says_extreme (elim [ nothing ↦ None | at p f ↦ Some (record { place = p; rate = record { num = f.num; den = f.den } }) ])
    (elim [ None ↦ refl | Some x ↦ refl ])

shown : (x y z : R.Extreme) → ((p : ℕ) (q : Fraction) → x ≡ at p q → 0 < q.den) → Shows x y → Shows x z → y ≡ z
shown nothing nothing nothing s l m = refl
shown nothing nothing (at n f) s l m = absurd m
shown nothing (at n f) z s l m = absurd l
shown (at p q) nothing z s l m = absurd l
shown (at p q) (at n f) nothing s l m = absurd m
shown (at p q) (at n f) (at k g) s (e, l) (h, m) = rw (e, h, lowest_once q f g (s p q refl) l m)

pub report_once : (run : List Pair) (a b : Report) → Reports (report_of run) a → Reports (report_of run) b → a ≡ b
report_once run a b s t =
    let low = extreme_of_lem _ a.smallest b.smallest (shown (report_of run).smallest _ _ (extreme_is below (twos run) (twos_some run)) s.smallest t.smallest) refl in
    let high = extreme_of_lem _ a.largest b.largest (shown (report_of run).largest _ _ (extreme_is above (twos run) (twos_some run)) s.largest t.largest) refl in
    let c = s.rates ∙ sym t.rates in
    let d = s.range ∙ sym t.range in
    let e = s.not_elapsed ∙ sym t.not_elapsed in
    let f = s.off_grid ∙ sym t.off_grid in
    λ i. record { rates = c i; range = d i; not_elapsed = e i; off_grid = f i; smallest = low i; largest = high i }
