use mathlib.Core.Path.{◌≡◌, sym, ap, ◌∙◌}
use mathlib.Core.Bool.{true}
use Prim.Native.Nat.{◌^◌}
use lib.Dec.{lit<}
use Rattle.base.proofs.Ladders.{need_yes, need_no}
use Rattle.scale.specs.Time.{good, record_of, shift_of}
use Rattle.scale.specs.Answers.{recorded, spanned}
use Rattle.scale.proofs.Laws.{good_within, passed, is_sum}
use Rattle.scale.proofs.shift.Goals.{After-moved-to, In_ok-r, In_ok-s}
use Rattle.scale.proofs.shift.Goals as goal

first : (c : In_ok-r) → (good (2 ^ 41) (recorded c.in_ok-r.r) ≡ true) × (recorded c.args.r ≡ recorded c.in_ok-r.r)
first c = passed _ _ _ c.in_ok-r.ensures

second : (c : In_ok-s) → (good (2 ^ 42) (spanned c.in_ok-s.s) ≡ true) × (spanned c.args.s ≡ spanned c.in_ok-s.s)
second c = passed _ _ _ c.in_ok-s.ensures

pub moved-to-requires : goal.moved-to-requires
moved-to-requires c = (good_within _ _ (lit< tt) (first c.before.before.before).0, good_within _ _ (lit< tt) (second c).0)

-- up to the sum's own test
summed : (c : After-moved-to) → shift_of (recorded c.args.r) (spanned c.args.s) ≡ record_of (recorded c.moved-to.result)
summed c =
    let r = first c.before.before.before.before in
    let s = second c.before in
    ap (λ t. shift_of t (spanned c.args.s)) r.1
    ∙ ap (shift_of (recorded c.in_ok-r.r)) s.1
    ∙ need_yes 7 _ r.0
    ∙ need_yes 7 _ s.0
    ∙ ap record_of (is_sum _ _ _ c.moved-to.ensures)

pub returns-then-valid : goal.returns-then-valid
returns-then-valid c = sym (summed c.before.before ∙ need_yes 7 _ (sym c.valid.ensures ∙ c.if-valid.true))

pub returns-else-valid : goal.returns-else-valid
returns-else-valid c = sym (summed c.before.before ∙ need_no 7 _ (sym c.valid.ensures ∙ c.if-valid.false))
