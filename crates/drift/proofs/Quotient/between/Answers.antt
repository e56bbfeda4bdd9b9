-- Its exits are the first rungs of the ladder.
use mathlib.Core.Path.{◌∙◌}
use Rattle.base.proofs.Bools.{and_true}
use Rattle.drift.proofs.Pairs.{invalid, off_grid, on_paper}
use Rattle.drift.proofs.Quotient.between.Goals as goal

pub returns-then-not-first-second : goal.returns-then-not-first-second
returns-then-not-first-second c = invalid c.args.first c.args.second c.if-not-first-second.true

pub returns-then-not-first-second-2 : goal.returns-then-not-first-second-2
returns-then-not-first-second-2 c = off_grid c.args.first c.args.second c.if-not-first-second.false c.if-not-first-second-2.true

pub marks-requires : goal.marks-requires
marks-requires c = (and_true c.args.first.valid c.args.second.valid c.if-not-first-second.false).0

pub marks-requires-2 : goal.marks-requires-2
marks-requires-2 c = (and_true c.args.first.valid c.args.second.valid c.if-not-first-second.false).1

pub returns : goal.returns
returns c = c.quotient_to.ensures ∙ on_paper c.args.first c.args.second c.if-not-first-second.false _ _ c.if-not-first-second-2.false c.marks.ensures c.marks-2.ensures
