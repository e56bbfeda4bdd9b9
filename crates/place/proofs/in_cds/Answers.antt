use mathlib.Core.Path.{◌≡◌}
use mathlib.Core.Bool.{true}
use Rattle.std.proofs.Common.{rules, tests}
use native.Mathlib.Omega.{arith}
use Rattle.octets.specs.Counts.{count_at}
use Rattle.cds.proofs.Laws.{widths}
use Rattle.place.specs.Binary.{kept, any}
use Rattle.place.proofs.Numbers.{octets_kept, milli_bad, part_bad, all_good_lem}
use Rattle.place.proofs.in_cds.Goals.{After-count-milliseconds}
use Rattle.place.proofs.in_cds.Goals as goal

day : (c : After-count-milliseconds) → let a = c.args in kept (count_at a.s.now a.at a.l.day) any ≡ true
day c =
    let a = c.args in
    let (d, _, _) = widths a.l c.requires.0 in
    octets_kept a.s.now a.at a.l.day (λ i. omega (arith, c.type_inv.s i)) (omega arith) (omega (arith, c.requires.1))

pub returns-then-not-is_ok_and : goal.returns-then-not-is_ok_and
returns-then-not-is_ok_and c =
    let a = c.args in
    milli_bad a.s.now a.at a.l (day (goal.at.returns-then-not-is_ok_and c).After-count-milliseconds) (search (rules, tests))

pub returns-then-not-is_ok_and-2 : goal.returns-then-not-is_ok_and-2
returns-then-not-is_ok_and-2 c =
    let a = c.args in
    part_bad a.s.now a.at a.l (day (goal.at.returns-then-not-is_ok_and-2 c).After-count-milliseconds) (search (rules, tests)) (search (rules, tests))

pub returns : goal.returns
returns c =
    let a = c.args in
    all_good_lem a.s.now a.at a.l (day (goal.at.returns c).After-count-milliseconds) (search (rules, tests)) (search (rules, tests))
