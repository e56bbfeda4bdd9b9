use Rattle.leap.proofs.Rule.{on_day}
use Rattle.leap.proofs.CoveredDay.row.Goals as goal

pub returns : goal.returns
returns c = on_day _ _ c.row.ensures
