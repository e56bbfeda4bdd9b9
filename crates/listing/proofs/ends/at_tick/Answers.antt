use mathlib.Core.Bool.{true, not}
use mathlib.Core.Path.{◌≡◌, sym, ap, ◌∙◌}
use Prim.Native.Nat.{◌^◌}
use lib.Dec.{lit<}
use Rattle.base.proofs.Ladders.{need_yes, need_no}
use Rattle.scale.specs.Answers.{recorded}
use Rattle.scale.specs.Time.{is_record}
use Rattle.scale.proofs.Laws.{good_within}
use Rattle.listing.specs.Ends.{ends_of}
use Rattle.listing.proofs.ends.at_tick.Goals.{Else-not-valid, Else-not-valid-2}
use Rattle.listing.proofs.ends.at_tick.Goals as goal

pub returns-then-not-valid : goal.returns-then-not-valid
unfolding ends_of
returns-then-not-valid c = sym (need_no 7 _ (sym c.valid.ensures ∙ c.if-not-valid.true))

from_good : (c : Else-not-valid) → is_record (recorded c.args.from) ≡ true
from_good c = sym c.valid.ensures ∙ c.if-not-valid.false

pub returns-then-not-valid-2 : goal.returns-then-not-valid-2
unfolding ends_of
returns-then-not-valid-2 c =
    sym (need_yes 7 _ (from_good (goal.at.returns-then-not-valid-2 c).Else-not-valid) ∙ need_no 7 _ (sym c.valid-2.ensures ∙ c.if-not-valid-2.true))

to_good : (c : Else-not-valid-2) → is_record (recorded c.args.to) ≡ true
to_good c = sym c.valid-2.ensures ∙ c.if-not-valid-2.false

pub returns-then-before : goal.returns-then-before
unfolding ends_of
returns-then-before c =
    sym (need_yes 7 _ (from_good (goal.at.returns-then-before c).Else-not-valid) ∙ need_yes 7 _ (to_good (goal.at.returns-then-before c).Else-not-valid-2) ∙ need_no 9 _ (ap not (sym c.before-2.ensures ∙ c.if-before.true)))

pub start-requires : goal.start-requires
start-requires c = good_within (2 ^ 41) _ (lit< tt) (from_good (goal.at.start-requires c).Else-not-valid)

pub start-requires-2 : goal.start-requires-2
start-requires-2 c = good_within (2 ^ 41) _ (lit< tt) (to_good (goal.at.start-requires-2 c).Else-not-valid-2)

pub returns : goal.returns
unfolding ends_of
returns c =
    rw (c.start.ensures, c.start-2.ensures)
    (sym (need_yes 7 _ (from_good (goal.at.returns c).Else-not-valid) ∙ need_yes 7 _ (to_good (goal.at.returns c).Else-not-valid-2) ∙ need_yes 9 _ (ap not (sym c.before-2.ensures ∙ c.if-before.false))))
