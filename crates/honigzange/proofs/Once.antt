-- Two outcomes that meet the statement of a rate's call, or of a run's, are the same: the answer, and all cells.
use mathlib.Core.Path.{◌≡◌, refl, sym, ap, ◌∙◌}
use mathlib.Core.List.{List}
use Prim.Native.Nat.{ℕ, ◌<◌}
use lib.IntN.{ℤ}
use Rattle.base.specs.Outcome.{Outcome, done, refused}
use Rattle.drift.specs.Fraction.{Fraction}
use Rattle.drift.specs.Rate.{Pair, quotient_of}
use Rattle.drift.specs.Run.{report_of}
use Rattle.drift.specs.Answers.{Lowered}
use Rattle.drift.proofs.Once.{report_once}
use Rattle.drift.proofs.Promises.{lowest_once}
use Rattle.drift.proofs.Tallies.{quotient_some}
use Rattle.honigzange.specs.Cells.{numbers_of}
use Rattle.honigzange.specs.Calls.{RateCells, ReportCells}

lowered : (x : Outcome Fraction) → ((q : Fraction) → x ≡ done q → 0 < q.den) → (old f g : Fraction) → Lowered x old f → Lowered x old g → f ≡ g
lowered (done q) some old f g l m = lowest_once q f g (some q refl) l m
lowered (refused n) some old f g l m = l ∙ sym m

pub rate_cells_once : (p q : Pair) (r s : ℕ) (num n m : ℤ) (den d e : ℕ) → RateCells (quotient_of p q) r num n den d → RateCells (quotient_of p q) s num m den e → (r ≡ s) × (n ≡ m) × (d ≡ e)
rate_cells_once p q r s num n m den d e x y =
    let h = lowered (quotient_of p q) (quotient_some p q) (record { num = num; den = den }) (record { num = n; den = d }) (record { num = m; den = e }) x.rate y.rate in
    (x.answer ∙ sym y.answer, ap (λ (f : Fraction). f.num) h, ap (λ (f : Fraction). f.den) h)

pub report_cells_once : (run : List Pair) (r s : ℕ) (c d : List ℕ) → ReportCells (report_of run) r c → ReportCells (report_of run) s d → (r ≡ s) × (c ≡ d)
report_cells_once run r s c d x y =
    (x.answer ∙ sym y.answer, x.cells ∙ ap numbers_of (report_once run x.report y.report x.meets y.meets) ∙ sym y.cells)
