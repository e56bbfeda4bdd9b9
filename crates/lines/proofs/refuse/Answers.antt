use mathlib.Core.Path.{◌≡◌, ◌∙◌}
use native.Mathlib.Omega.{arith}
use Rattle.lines.specs.Answer.{figures}
use Rattle.lines.proofs.Texts.{one_figure, two_figures, told}
use Rattle.lines.proofs.refuse.Goals.{then-n-lt10, else-n-lt10}
use Rattle.lines.proofs.refuse.Goals as goal

pub returns : goal.returns
returns c =
    let l : c.if-n-lt10.width ≡ figures c.number-n.result =
    elim c.if-n-lt10.branch [
      | then-n-lt10 w ↦ w.width-is ∙ one_figure c.number-n.result w.if-n-lt10.true
      | else-n-lt10 w ↦ w.width-is ∙ two_figures c.number-n.result w.if-n-lt10.false
    ] in
    told _ _ _ _ _ _ _ c.requires c.copy_from_slice.ensures.after c.put_decimal.ensures (omega (arith, c.from.ensures, c.number-n.ensures)) (rw c.number-n.ensures at l)
