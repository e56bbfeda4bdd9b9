-- A run, two by two: what is noted of one outcome after another is the report on all of them.
use mathlib.Core.Path.{◌≡◌, refl, sym, ap, ◌∙◌}
use mathlib.Core.Bool.{Bool, true, false, cond, ◌&&◌}
use mathlib.Core.List.{List, [], ◌∷◌, ◌++◌}
use Prim.Native.Nat.{ℕ, zero, suc, ◌-◌, ◌<◌}
use native.Mathlib.Omega.{arith}
use lib.IntN.{pos, nat_abs}
use lib.ListN.{length, get_or}
use Rattle.base.specs.Outcome.{Outcome, done, refused, need}
use Rattle.base.proofs.Ladders.{done_is, need_done}
use Rattle.base.proofs.Signed.{abs_is, lt_yes}
use Rattle.scale.specs.Time.{is_record}
use Rattle.drift.specs.Fraction.{Fraction, below, above}
use Rattle.drift.specs.Rate.{Pair, on_grid, of_all, elapsed, short, passed, quotient_of}
use Rattle.drift.specs.Run.{after, twos, is_rate, is_refusal, count, Report, report_on}
use Rattle.drift.specs.Inner.{none_of, more, noted_of}
use Rattle.drift.proofs.Orders.{smaller, greater}
use Rattle.drift.proofs.Extremes.{Each, none, rate, refusal, Tells, tells_next, tells_extreme}

-- ---- the twos of a run
after_length : (p : Pair) (run : List Pair) → length (after p run) ≡ length run
unfolding after
after_length p [] = refl
after_length p (q ∷ run) = ap suc (after_length q run)

pub twos_length : (run : List Pair) → length (twos run) ≡ length run - 1
unfolding twos
twos_length [] = refl
twos_length (p ∷ run) = after_length p run ∙ omega arith

after_at : (p : Pair) (run : List Pair) (i : ℕ) (d : Pair) → i < length run → get_or (after p run) i (refused 0) ≡ quotient_of (get_or (p ∷ run) i d) (get_or run i d)
unfolding after
after_at p [] i d h = absurd (omega arith)
after_at p (q ∷ run) zero d h = refl
after_at p (q ∷ run) (suc i) d h = after_at q run i d (omega arith)

pub twos_at : (run : List Pair) (i : ℕ) (d : Pair) → suc i < length run → get_or (twos run) i (refused 0) ≡ quotient_of (get_or run i d) (get_or run (suc i) d)
unfolding twos
twos_at [] i d h = absurd (omega arith)
twos_at (p ∷ run) i d h = after_at p run i d (omega arith)

-- a quotient has a positive denominator
pub quotient_some : (p q : Pair) (f : Fraction) → quotient_of p q ≡ done f → 0 < f.den
unfolding quotient_of
quotient_some p q f e =
    let ground = elapsed p.ground q.ground in
    let top : Outcome Fraction = done (record { num = elapsed p.onboard q.onboard; den = nat_abs ground }) in
    let size = short (elapsed p.onboard q.onboard) && short ground in
    let (a, x) = need_done (of_all is_record p q) 7 (need (of_all on_grid p q) 11 (need size 7 (need (passed ground) 10 top))) f e in
    let (b, y) = need_done (of_all on_grid p q) 11 (need size 7 (need (passed ground) 10 top)) f x in
    let (c, z) = need_done size 7 (need (passed ground) 10 top) f y in
    let (d, w) = need_done (passed ground) 10 top f z in
    let s : nat_abs ground ≡ f.den = ap (λ (g : Fraction). g.den) (done_is _ f w) in
    omega (arith, lt_yes (pos 0) ground d, abs_is ground)

some_outcome : (o : Outcome Fraction) (os : List (Outcome Fraction)) → ((f : Fraction) → o ≡ done f → 0 < f.den) → Each (λ f. 0 < f.den) os → Each (λ f. 0 < f.den) (o ∷ os)
some_outcome (done f) os h k = rate (h f refl) k
some_outcome (refused n) os h k = refusal k

after_some : (p : Pair) (run : List Pair) → Each (λ f. 0 < f.den) (after p run)
unfolding after
after_some p [] = none
after_some p (q ∷ run) = some_outcome (quotient_of p q) (after q run) (quotient_some p q) (after_some q run)

pub twos_some : (run : List Pair) → Each (λ f. 0 < f.den) (twos run)
unfolding twos
twos_some [] = none
twos_some (p ∷ run) = after_some p run

-- ---- counts
count_last : (test : Outcome Fraction → Bool) (os : List (Outcome Fraction)) (o : Outcome Fraction) → more (test o) (count test os) ≡ count test (os ++ o ∷ [])
unfolding count
count_last test [] o = go (test o)
  where
    go : (t : Bool) → more t 0 ≡ cond t 1 0
    go true = refl
    go false = refl
count_last test (x ∷ os) o = go (test x) (test o) (count test os) _ (count_last test os o)
  where
    go : (s t : Bool) (m n : ℕ) → more t m ≡ n → more t (cond s (suc m) m) ≡ cond s (suc n) n
    go true true m n e = omega arith
    go true false m n e = ap suc e
    go false t m n e = e

-- ---- the report, outcome after outcome
pub record Tallied (os : List (Outcome Fraction)) (x : Report) : Type 0 where
  pub rates : x.rates ≡ count is_rate os
  pub range : x.range ≡ count (is_refusal 7) os
  pub not_elapsed : x.not_elapsed ≡ count (is_refusal 10) os
  pub off_grid : x.off_grid ≡ count (is_refusal 11) os
  pub smallest : Tells below os x.smallest
  pub largest : Tells above os x.largest

pub tallied_none : Tallied [] none_of
unfolding count
tallied_none = record { rates = refl; range = refl; not_elapsed = refl; off_grid = refl; smallest = none; largest = none }

module _ (os : List (Outcome Fraction)) (some : Each (λ f. 0 < f.den) os) where
  counted : (test : Outcome Fraction → Bool) (o : Outcome Fraction) (n : ℕ) → n ≡ count test os → more (test o) n ≡ count test (os ++ o ∷ [])
  counted test o n e = ap (more (test o)) e ∙ count_last test os o

  pub tallied_next : (x : Report) (o : Outcome Fraction) → Tallied os x → Tallied (os ++ o ∷ []) (noted_of x (length os) o)
  tallied_next x o t =
      record {
        rates = counted is_rate o x.rates t.rates;
        range = counted (is_refusal 7) o x.range t.range;
        not_elapsed = counted (is_refusal 10) o x.not_elapsed t.not_elapsed;
        off_grid = counted (is_refusal 11) o x.off_grid t.off_grid;
        smallest = tells_next below smaller os some x.smallest o t.smallest;
        largest = tells_next above greater os some x.largest o t.largest;
      }

  pub tallied_report : (x : Report) → Tallied os x → x ≡ report_on os
  tallied_report x t =
      let low = tells_extreme below smaller os some x.smallest t.smallest in
      let high = tells_extreme above greater os some x.largest t.largest in
      λ i.
      record {
        rates = t.rates i;
        range = t.range i;
        not_elapsed = t.not_elapsed i;
        off_grid = t.off_grid i;
        smallest = sym low i;
        largest = sym high i;
      }
