use native.Mathlib.Omega.{arith}
use Rattle.moment.proofs.Decimal.{power_is, power_some, too_fine}
use Rattle.moment.proofs.decimal_unit.Goals as goal

pub nonzero_div-result : goal.nonzero_div-result
nonzero_div-result c = rw (c.power10.ensures, power_is c.args.d (omega arith)) (power_some c.args.d)

pub returns-else-d-lt20 : goal.returns-else-d-lt20
returns-else-d-lt20 c = too_fine c.args.d (omega arith)
