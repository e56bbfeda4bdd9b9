use mathlib.Core.Path.{◌≡◌}
use native.Mathlib.Omega.{arith}
use Rattle.std.specs.Prelude.{Err}
use Rattle.std.proofs.Common.{rules}
use Rattle.scale.specs.Answers.{recorded}
use Rattle.lines.proofs.Texts.{long_refused, read_refused, read_written}
use Rattle.lines.proofs.rewrite.Goals as goal

pub returns-then-line-gt-LONGEST : goal.returns-then-line-gt-LONGEST
returns-then-line-gt-LONGEST c = long_refused _ _ c.if-line-gt-LONGEST.true

pub returns-in_err-r : goal.returns-in_err-r
returns-in_err-r c =
    let e : c.from_residual.result ≡ Err c.in_err-r.field-0.0 = search rules in
    rw e (read_refused _ _ c.in_err-r.field-0.0 (omega arith) c.in_err-r.ensures)

pub returns : goal.returns
returns c = read_written _ _ _ (recorded c.in_ok-r.r) _ (omega arith) c.in_ok-r.ensures c.write_wall.ensures
