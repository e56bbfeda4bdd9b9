use mathlib.Core.Path.{sym, ap, ◌∙◌}
use Prim.Native.Nat.{◌<◌}
use native.Mathlib.Omega.{arith}
use Rattle.leap.specs.declared.Day.{Day}
use Rattle.leap.specs.Table.{day_length}
use Rattle.leap.specs.Builtin.{builtin}
use Rattle.leap.proofs.Builtin.{row_small}
use Rattle.leap.proofs.Rule.{offset_on, least_length}
use Rattle.leap.proofs.Outcomes.{second_found}
use Rattle.leap.proofs.second_at.Goals.{else-second-eq86400-via-then-second-eq86400+else-day-eq86400, else-second-eq86400-via-else-second-eq86400}
use Rattle.leap.proofs.second_at.Goals as goal

pub overflow_add-result-2 : goal.overflow_add-result-2
overflow_add-result-2 c = omega (arith, c.offset.ensures, (row_small c.row-row.result.number c.row-row.ensures.row).offset_high)

-- the day has the second: 86,400 was asked for, and any other it has
pub returns : goal.returns
returns c =
    let o = offset_on _ _ c.row-row.ensures ∙ sym c.offset.ensures in
    let l = least_length _ _ c.row-row.ensures in
    let has : c.args.second < day_length builtin c.in_ok-covered.covered.index =
    elim c.else-second-eq86400.branch [
      | else-second-eq86400-via-then-second-eq86400+else-day-eq86400 w ↦ omega (arith, ap (λ (x : Day). x.length) w.day.ensures)
      | else-second-eq86400-via-else-second-eq86400 w ↦ omega arith
    ] in
    rw (← o) (second_found builtin _ _ _ (omega arith) c.in_ok-covered.ensures has)
