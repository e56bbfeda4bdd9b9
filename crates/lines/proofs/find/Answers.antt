use Rattle.std.proofs.Common.{rules, tests}
use mathlib.Core.Path.{refl}
use Rattle.std.proofs.lemmas.Iterator.{IsFirst-from_position, YieldsList-from_slice}
use Rattle.lines.proofs.Finds.{feed, other, found}
use Rattle.lines.proofs.find.Goals as goal

pub returns : goal.returns
returns c = found _ _ _ _ _ c.requires refl c.unwrap_or.ensures (IsFirst-from_position _ _ c.position.result feed other c.position.ensures.ran (YieldsList-from_slice _ c.iter.ensures.rest) (λ x q k. search (rules, tests)) (λ x q k. search (rules, tests)))
