use Rattle.std.proofs.Common.{◌≡◌, refl, length, pos, None, arith, rules}
use Rattle.std.proofs.lemmas.List.{set-get_or}
use mir.Syntax.{w64}
use mir.Val.{to_z, of_z}
use Rattle.window.proofs.Room.{fill_start, fill_more}
use Rattle.window.proofs.Filled.{all_filled}
use Rattle.window.proofs.fill.Goals as goal

pub loop-count-init : goal.loop-count-init
loop-count-init g c = fill_start _ refl

pub loop-count-preserved : goal.loop-count-preserved
loop-count-preserved g c =
    let e : to_z w64 (of_z w64 c.in-Some.moment) ≡ c.in-Some.moment = search rules in
    rw e (fill_more c.in-Some.moment c.in-Some.ensures c.loop-count-test.true c.loop-count.invariant)

pub returns-in_default : goal.returns-in_default
returns-in_default g c =
    rw (set-get_or c.loop-count.out c.loop-count.count (pos 0)) (all_filled g.S.Source.left _ _ None _ c.in_default.ensures (λ e. absurd (cc)) c.loop-count.invariant)

pub returns : goal.returns
returns g c =
    let e : length c.loop-count.out ≡ c.loop-count.count = omega arith in
    rw (e, c.is_some.ensures) (all_filled g.S.Source.left _ _ _ _ c.next-2.ensures (λ _. c.loop-count-test.false) c.loop-count.invariant)
