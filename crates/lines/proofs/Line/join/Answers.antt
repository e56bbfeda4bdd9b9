use Rattle.lines.proofs.Fills.{joins}
use native.Mathlib.Omega.{arith}
use lib.ListN.{length, take}
use lib.Seq.{length-take-le}
use borrow.Author.Rules.{rules}
use mathlib.Core.Path.{◌≡◌}
use Rattle.lines.proofs.Line.join.Goals as goal

pub returns : goal.returns
returns c =
    let a = c.args in
    let n = c.min-n.result in
    let w : length a.self.bytes ≡ 65 = search rules in
    let h = length-take-le n a.self.bytes (omega arith) in
    let e = joins (take n a.self.bytes) a.part.now _ _ n c.min-more.result _ c.copy_from_slice.ensures.after c.copy_from_slice-2.ensures.after h (omega arith) (omega arith) (omega arith) in
    rw (← c.min-n.ensures) e
