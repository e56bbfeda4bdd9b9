-- What a moment is, of its parts.
use mathlib.Core.Path.{◌≡◌, ◌∙◌}
use mathlib.Core.Bool.{true}
use Prim.Native.Nat.{◌≤◌, ◌<◌}
use lib.Dec.{leb, ltb}
use borrow.Author.Tests.{leb-true, ltb-true, le-leb, lt-ltb}
use Rattle.base.proofs.Bools.{and_true, and_yes}
use Rattle.scale.specs.Time.{per_second}
use Rattle.moment.specs.declared.Moment.{Moment}
use Rattle.moment.specs.Moment.{is_moment}

pub moment_parts : (m : Moment) → is_moment m ≡ true → (m.second ≤ 86400) × (m.ticks < per_second)
unfolding is_moment
moment_parts m e =
    let (a, b) = and_true (leb m.second 86400) (ltb m.ticks per_second) e in
    (leb-true _ _ a, ltb-true _ _ b)

pub parts_moment : (m : Moment) → m.second ≤ 86400 → m.ticks < per_second → is_moment m ≡ true
unfolding is_moment
parts_moment m h k = and_yes _ (le-leb m.second 86400 h) ∙ lt-ltb m.ticks per_second k
