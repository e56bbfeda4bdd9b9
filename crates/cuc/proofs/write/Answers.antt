use mathlib.Core.Path.{◌≡◌, sym, ◌∙◌}
use borrow.Author.Rules.{rules}
use Rattle.std.specs.Prelude.{Err}
use Rattle.cuc.proofs.Fields.{write_invalid, write_unjudged}
use Rattle.cuc.proofs.write.Goals as goal

pub returns-then-not-valid : goal.returns-then-not-valid
returns-then-not-valid c = write_invalid _ _ _ _ (sym c.valid.ensures ∙ c.if-not-valid.true)

pub returns-in_err-judged : goal.returns-in_err-judged
returns-in_err-judged c =
    let e : c.from_residual.result ≡ Err c.in_err-judged.field-0.0 = search rules in
    rw e (write_unjudged _ _ _ _ _ (sym c.valid.ensures ∙ c.if-not-valid.false) c.in_err-judged.ensures)
