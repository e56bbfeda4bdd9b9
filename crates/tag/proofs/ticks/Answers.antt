use mathlib.Core.Path.{sym, ◌∙◌}
use Rattle.std.proofs.Common.{rules, tests}
use Rattle.base.proofs.Passed.{passed}
use Rattle.tag.proofs.Times.{part_err}
use Rattle.tag.proofs.ticks.Goals as goal

pub returns-in_err-n : goal.returns-in_err-n
returns-in_err-n c =
    passed _ _ c.from_residual.ensures.1 ∙ part_err c.args.s.now _ (search (rules, tests)) (search (rules, tests)) (sym c.decimal.ensures ∙ c.in_err-n.was)
