use mathlib.Core.Path.{◌≡◌, ap}
use Prim.Native.Nat.{ℕ, ◌+◌, ◌-◌, ◌*◌, ◌/◌, ◌≤◌, min}
use native.Mathlib.Omega.{arith}
use lib.ListN.{length}
use Rattle.leap.specs.declared.Row.{Row}
use Rattle.leap.specs.declared.Reading.{Reading}
use Rattle.leap.specs.Table.{start, day_holding, reading}
use Rattle.leap.specs.Builtin.{builtin}
use Rattle.leap.specs.Inner.{row_at, end_at, InSecond}
use Rattle.leap.proofs.Builtin.{builtin_good, later_rows}
use Rattle.leap.proofs.Rows.{Ends, row_ends, row_day}
use Rattle.leap.proofs.CoveredSecond.reading.Goals.{else-second-eq0-via-then-second-eq0+else-end-day, else-second-eq0-via-else-second-eq0}
use Rattle.leap.proofs.CoveredSecond.reading.Goals as goal

-- the reading of a second in which row i is in force
place : {s i d x o : ℕ} → InSecond builtin s i → o ≡ (row_at builtin i).offset → (Ends (row_at builtin i) (end_at builtin i) → d ≡ min ((s - o) / 86400) ((end_at builtin i).day - 1)) → x ≡ s - (d * 86400 + o) → ◌≡◌ {A = Reading} (record { day = d; second = x; offset = o }) (reading builtin (day_holding builtin s) (s - start builtin (day_holding builtin s)))
unfolding start
place {s} {i} {d} w e m f =
    let h : i ≤ length builtin.later = omega (arith, later_rows, w.row) in
    let p = row_day builtin builtin_good i h s d w.low w.high (rw e at (m (row_ends builtin builtin_good i h))) in
    rw (p.0, f, e, ← p.1)

pub returns-then-end-day : goal.returns-then-end-day
returns-then-end-day c =
    place c.row-row.ensures c.offset-offset.ensures (λ z. omega (arith, ap (λ (x : Row). x.day) c.end.ensures.0)) (omega arith)

pub returns : goal.returns
returns c =
    elim c.else-second-eq0.branch [
      | else-second-eq0-via-then-second-eq0+else-end-day w ↦ place c.row-row.ensures c.offset-offset.ensures (λ z. omega (arith, ap (λ (x : Row). x.day) w.end.ensures.0)) (omega arith)
      | else-second-eq0-via-else-second-eq0 w ↦ place c.row-row.ensures c.offset-offset.ensures (λ z. omega arith) (omega arith)
    ]
