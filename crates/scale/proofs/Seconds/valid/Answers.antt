-- The test of the seconds, read as it stands: what it is given are the ends of the range and the seconds.
use mathlib.Core.Path.{◌≡◌, sym, ◌∙◌}
use mathlib.Core.Bool.{Bool}
use lib.IntN.{ℤ, negsuc, ◌-ℤ◌}
use mir.Syntax.{w64}
use mir.Val.{to_z}
use Rattle.std.proofs.Common.{arith, rules}
use Rattle.std.proofs.lemmas.Grind.{common_steps}
use Rattle.std.proofs.lemmas.Int.{ints}
use Rattle.base.proofs.Bools.{and_yes, and_no}
use Rattle.base.specs.Parts.{within}
use Rattle.scale.specs.Answers.{timed}
use Rattle.scale.proofs.Laws.{held_is}
use Rattle.scale.proofs.Seconds.valid.Goals as goal

told : {b : Bool} (last lo hi y z : ℤ) → b ≡ within lo hi y → lo ≡ negsuc 0 -ℤ last → hi ≡ last → y ≡ z → within (negsuc 0 -ℤ last) last z ≡ b
told last lo hi y z e f g h = sym (rw (f, g, h) at e)

pub returns-then-between : goal.returns-then-between
returns-then-between g c =
    let last = to_z w64 g.row.LAST in
    sym (and_yes _ (told last _ _ _ c.args.self.sec c.between.ensures (grind (arith, common_steps, ints)) (grind (arith, common_steps, ints)) (search rules) ∙ c.if-between.true))
    ∙ held_is last (timed c.args.self)

pub returns-else-between : goal.returns-else-between
returns-else-between g c =
    let last = to_z w64 g.row.LAST in
    c.if-between.false
    ∙ sym (and_no _ (told last _ _ _ c.args.self.sec c.between.ensures (grind (arith, common_steps, ints)) (grind (arith, common_steps, ints)) (search rules) ∙ c.if-between.false))
    ∙ held_is last (timed c.args.self)
