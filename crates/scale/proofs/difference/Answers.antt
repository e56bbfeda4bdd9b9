use mathlib.Core.Path.{◌≡◌, sym, ap, ◌∙◌}
use mathlib.Core.Bool.{true}
use Prim.Native.Nat.{◌^◌}
use lib.Dec.{lit<}
use Rattle.base.proofs.Ladders.{need_yes}
use Rattle.base.specs.Outcome.{done}
use Rattle.scale.specs.Time.{good, difference_of}
use Rattle.scale.specs.Answers.{recorded}
use Rattle.scale.proofs.Laws.{good_within, passed, is_difference}
use Rattle.scale.proofs.difference.Goals.{In_ok-a, In_ok-b}
use Rattle.scale.proofs.difference.Goals as goal

first : (c : In_ok-a) → (good (2 ^ 41) (recorded c.in_ok-a.a) ≡ true) × (recorded c.args.a ≡ recorded c.in_ok-a.a)
first c = passed _ _ _ c.in_ok-a.ensures

second : (c : In_ok-b) → (good (2 ^ 41) (recorded c.in_ok-b.b) ≡ true) × (recorded c.args.b ≡ recorded c.in_ok-b.b)
second c = passed _ _ _ c.in_ok-b.ensures

pub apart-requires : goal.apart-requires
apart-requires c = (good_within _ _ (lit< tt) (first c.before.before.before).0, good_within _ _ (lit< tt) (second c).0)

pub returns : goal.returns
returns c =
    let a = first c.before.before.before.before in
    let b = second c.before in
    sym (
    ap (λ t. difference_of t (recorded c.args.b)) a.1
    ∙ ap (difference_of (recorded c.in_ok-a.a)) b.1
    ∙ need_yes 7 _ a.0
    ∙ need_yes 7 _ b.0
    ∙ ap done (is_difference _ _ _ c.apart.ensures)
    )
