use mathlib.Core.Path.{◌≡◌}
use borrow.Author.Rules.{rules}
use Rattle.std.specs.Prelude.{Err}
use Rattle.codes.proofs.Fronts.{fronts_refused, fronts_done}
use Rattle.codes.proofs.put_fronted.Goals as goal

pub returns-in_err-end : goal.returns-in_err-end
returns-in_err-end c =
    let e : c.from_residual.result ≡ Err c.in_err-end.field-0.0 = search rules in
    rw e (fronts_refused _ _ _ _ _ c.in_err-end.ensures)

pub returns : goal.returns
returns c = fronts_done _ _ _ _ _ c.in_ok-end.ensures
