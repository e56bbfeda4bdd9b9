use mathlib.Core.Path.{◌≡◌, ap}
use Prim.Native.Nat.{◌≤◌}
use native.Mathlib.Omega.{arith}
use Rattle.leap.specs.declared.Row.{Row}
use Rattle.leap.specs.Table.{start, day_length}
use Rattle.leap.specs.Builtin.{builtin}
use Rattle.leap.proofs.Builtin.{row_small}
use Rattle.leap.proofs.Rule.{offset_on, length_on, last_length}
use Rattle.leap.proofs.CoveredDay.day.Goals.{After-end-end, then-self-end, else-self-end}
use Rattle.leap.proofs.CoveredDay.day.Goals as goal

low : (c : After-end-end) → c.offset-offset.result ≤ 101
low c = omega (arith, c.offset-offset.ensures, (row_small c.args.row.number c.args.row.in_table).offset_high)

pub overflow_sub-length : goal.overflow_sub-length
overflow_sub-length c = omega (arith, low (goal.at.overflow_sub-length c).After-end-end)

pub overflow_add-result : goal.overflow_add-result
overflow_add-result c = omega (arith, low (goal.at.overflow_add-result c).After-end-end)

pub returns : goal.returns
unfolding start
returns c =
    let d : c.end-end.result.day ≡ _ = ap (λ (x : Row). x.day) c.end-end.ensures.0 in
    let o = ap (λ (x : Row). x.offset) c.end-end.ensures.0 in
    let l : c.if-self-end.length ≡ day_length builtin c.args.self.index =
    elim c.if-self-end.branch [
      | then-self-end w ↦ omega (arith, last_length _ _ c.requires (omega arith), c.offset-offset.ensures)
      | else-self-end w ↦ omega (arith, length_on _ _ c.requires (omega (arith, c.requires.high)))
    ] in
    rw (c.offset-offset.ensures, l, offset_on _ _ c.requires)
