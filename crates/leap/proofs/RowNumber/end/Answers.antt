use mathlib.Core.Path.{sym, ap}
use native.Mathlib.Omega.{arith}
use Rattle.leap.specs.Builtin.{builtin}
use Rattle.leap.specs.Inner.{end_at}
use Rattle.leap.proofs.Rule.{end_read}
use Rattle.leap.proofs.RowNumber.end.Goals as goal

pub returns-then-self-eq-LAST_ROW : goal.returns-then-self-eq-LAST_ROW
unfolding builtin
returns-then-self-eq-LAST_ROW c =
    (sym (ap (end_at builtin) c.if-self-eq-LAST_ROW.true), record { day_low = omega arith; day_high = omega arith; offset_high = omega arith })

pub returns : goal.returns
returns c = end_read c.args.self.number (omega arith)
