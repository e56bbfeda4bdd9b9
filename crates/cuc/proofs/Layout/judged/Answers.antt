use mathlib.Core.Path.{◌≡◌, sym, ◌∙◌}
use borrow.Author.Rules.{rules}
use mir.Syntax.{w64}
use mir.Val.{to_z, of_z}
use Rattle.cuc.proofs.Layouts.{judged_good}
use Rattle.cuc.proofs.Layout.judged.Goals as goal

pub invariant_of-result : goal.invariant_of-result
invariant_of-result c =
    let z = c.args.self.epoch in
    let e : to_z w64 (of_z w64 z) ≡ z = search rules in
    record { good = judged_good _ (sym c.is_width.ensures ∙ c.if-not-is_width.false) (rw e at (sym c.is_epoch.ensures) ∙ c.if-not-is_epoch.false) }
