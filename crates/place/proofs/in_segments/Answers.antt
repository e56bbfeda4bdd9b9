use Rattle.std.proofs.Common.{◌≡◌, true, false, rules, tests}
use Rattle.std.proofs.lemmas.Iterator.{first_from_Range}
use Rattle.place.proofs.Segments.{bad, first_segment}
use Rattle.place.proofs.in_segments.Goals as goal

pub returns : goal.returns
returns c =
    let a = c.args in
    first_segment a.s.now a.at a.segments 7 c.find.result
    (first_from_Range _ _ _ c.find.result (λ i. bad a.s.now a.at i ≡ true) (λ i. bad a.s.now a.at i ≡ false) c.find.ensures.ran (λ x q k. search (rules, tests)) (λ x q k. search (rules, tests)))
