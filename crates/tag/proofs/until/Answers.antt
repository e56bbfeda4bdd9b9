use Rattle.std.proofs.Common.{◌≡◌, rules, tests}
use Rattle.std.proofs.lemmas.Iterator.{IsFirst-from_position, YieldsList-from_slice}
use Rattle.tag.proofs.Scans.{until_first}
use Rattle.tag.proofs.until.Goals as goal

pub returns : goal.returns
returns c =
    let a = c.args in
    rw c.unwrap_or.ensures (until_first a.c a.s.now _ (IsFirst-from_position _ _ c.position.result (λ b. b ≡ a.c) (λ b. b ≡ a.c → ⊥) c.position.ensures.ran (YieldsList-from_slice a.s.now cc) (λ x q k. search (rules, tests)) (λ x q k. search (rules, tests))))
