use Rattle.std.proofs.Common.{rules, tests}
use Rattle.std.proofs.lemmas.Iterator.{YieldsList-from_slice, YieldsList-from_zip}
use Rattle.std.proofs.lemmas.Iterator.Search.{all_from_yields_List}
use Rattle.tag.proofs.Scans.{pairs_fit, other_size}
use Rattle.tag.proofs.Form.fits.Goals as goal

pub returns-then-shape-s : goal.returns-then-shape-s
returns-then-shape-s c =
    let a = c.args in
    pairs_fit a.self.0.now a.s.now c.if-shape-s.true c.all.result
    (all_from_yields_List _ c.all.new.self _ _ c.all.ensures.ran (YieldsList-from_zip (YieldsList-from_slice a.self.0.now cc) (YieldsList-from_slice a.s.now cc)) (λ x b q k. search (rules, tests)))

pub returns-else-shape-s : goal.returns-else-shape-s
returns-else-shape-s c = other_size c.args.self.0.now c.args.s.now c.if-shape-s.false
