-- A run, turn by turn: what is noted of the two that stand next, and of all that come after them.
use mathlib.Core.Path.{◌≡◌, sym, ap, ◌∙◌}
use mathlib.Core.List.{List, [], ◌∷◌, ◌++◌, append_assoc, append-nil, map}
use Prim.Native.Nat.{ℕ, ◌+◌, ◌<◌, ◌≤◌}
use native.Mathlib.Omega.{arith}
use lib.IntN.{ℤ}
use lib.ListN.{length, get_or, drop}
use Rattle.std.proofs.lemmas.List.{length_push, at_drop_more, at_drop_all}
use Rattle.base.specs.Outcome.{Outcome}
use Rattle.drift.specs.Fraction.{Fraction}
use Rattle.drift.specs.Rate.{quotient_of}
use Rattle.drift.specs.Run.{after, twos, Report, report_on, report_of}
use Rattle.drift.specs.Answers.{paired, pair_in}
use Rattle.drift.specs.Inner.{counted, says_tally, none_of, noted_of}
use Rattle.drift.specs.declared.Judged.{Judged}
use Rattle.drift.specs.declared.Tally.{Tally}
use Rattle.drift.proofs.Extremes.{Each, none, each_first, each_last}
use Rattle.drift.proofs.Tallies.{twos_some, Tallied, tallied_none, tallied_next, tallied_report}

-- a report with outcomes more, of which the first is at place n
unfoldable pub noting : Report → ℕ → List (Outcome Fraction) → Report
noting x n [] = x
noting x n (o ∷ os) = noting (noted_of x n o) (n + 1) os

noting_is : (pre os : List (Outcome Fraction)) (x : Report) → Each (λ f. 0 < f.den) pre → Each (λ f. 0 < f.den) os → Tallied pre x → noting x (length pre) os ≡ report_on (pre ++ os)
unfolding noting
noting_is pre [] x s h t = rw append-nil (tallied_report pre s x t)
noting_is pre (o ∷ os) x s h t =
    let (i, j) = each_first h in
    rw (append_assoc, length_push) at (noting_is (pre ++ o ∷ []) os (noted_of x (length pre) o) (each_last s i) j (tallied_next pre s x o t))

-- before a turn: the pair that is held, and what the run comes to with the rows that are left
pub record Sofar (run rows : List (List ℤ)) (k : ℕ) (t : Tally) (held : Judged) : Type 0 where
  pub few : counted t ≤ k
  pub comes : noting (says_tally t) k (after (paired held.pair) (map pair_in (drop k rows))) ≡ report_of (map pair_in run)

pub begins : (run rows : List (List ℤ)) (row : List ℤ) (t : Tally) (held : Judged) → run ≡ row ∷ rows → says_tally t ≡ none_of → paired held.pair ≡ pair_in row → Sofar run rows 0 t held
unfolding twos
begins run rows row t held e n j =
    record {
      few = omega (arith, ap (λ (x : Report). x.rates + x.range + x.not_elapsed + x.off_grid) n);
      comes = rw (n, e, j) (noting_is [] (twos (map pair_in (row ∷ rows))) none_of none (twos_some (map pair_in (row ∷ rows))) tallied_none);
    }

module _ (run rows : List (List ℤ)) (k : ℕ) (t : Tally) (held : Judged) (s : Sofar run rows k t held) where
  pub goes_on : (next : Judged) (o : Outcome Fraction) (t' : Tally) → k < length rows → paired next.pair ≡ pair_in (get_or rows k [])
      → o ≡ quotient_of (paired held.pair) (paired next.pair) → counted t' ≡ counted t + 1 → says_tally t' ≡ noted_of (says_tally t) k o → Sofar run rows (k + 1) t' next
  unfolding noting after
  goes_on next o t' h j q c n =
      record {
        few = omega (arith, s.few);
        comes = rw (n, q, j) (sym (at_drop_more (λ (l : List (List ℤ)). noting (says_tally t) k (after (paired held.pair) (map pair_in l))) rows k [] h) ∙ s.comes);
      }

  pub ends : length rows ≤ k → says_tally t ≡ report_of (map pair_in run)
  unfolding noting after
  ends h = sym (at_drop_all (λ (l : List (List ℤ)). noting (says_tally t) k (after (paired held.pair) (map pair_in l))) rows k h) ∙ s.comes

-- a run of no row
pub empty : (run : List (List ℤ)) → run ≡ [] → none_of ≡ report_of (map pair_in run)
unfolding twos
empty run e = rw e (tallied_report [] none none_of tallied_none)
