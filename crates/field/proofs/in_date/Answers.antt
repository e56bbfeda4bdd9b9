use Rattle.std.proofs.Common.{rules, tests}
use Rattle.field.proofs.Laws.{date_good, date_bad}
use Rattle.field.proofs.in_date.Goals as goal

pub returns-then-is_date : goal.returns-then-is_date
returns-then-is_date c =
    let a = c.args in
    date_good a.at.first a.at.second a.at.third a.year a.month a.day (search (rules, tests)) (search (rules, tests)) (search (rules, tests))

pub returns-else-is_date : goal.returns-else-is_date
returns-else-is_date c =
    let a = c.args in
    date_bad a.at.first a.at.second a.at.third a.year a.month a.day (search (rules, tests)) (search (rules, tests)) (search (rules, tests))
