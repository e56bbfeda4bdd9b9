use Rattle.std.proofs.Common.{sym, ◌∙◌, ap, not}
use Rattle.base.proofs.Bools.{and_yes, and_no}
use Rattle.leap.specs.Table.{start, offset}
use Rattle.leap.specs.Builtin.{builtin}
use Rattle.listing.specs.AsciiTag.{covered}
use Rattle.listing.proofs.covered.Goals as goal

pub returns-then-not-before : goal.returns-then-not-before
unfolding covered start offset builtin
returns-then-not-before c =
    ap not c.before-then-not-before.ensures ∙ sym (and_yes _ (ap not (sym c.before-2.ensures ∙ c.if-not-before.true)))

pub returns-else-not-before : goal.returns-else-not-before
unfolding covered start offset builtin
returns-else-not-before c =
    ap not c.if-not-before.false ∙ sym (and_no _ (ap not (sym c.before-2.ensures ∙ c.if-not-before.false)))
