-- What holds of a layout that there is, and its width.
use mathlib.Core.Path.{◌≡◌, ◌∙◌}
use mathlib.Core.Bool.{true, false}
use Prim.Native.Nat.{ℕ, ◌+◌, ◌-◌, ◌^◌, ◌<◌, ◌≤◌}
use native.Mathlib.Omega.{arith}
use borrow.Author.Tests.{leb-true, le-leb}
use lib.Dec.{leb}
use lib.IntN.{pos, neg_ℤ}
use Rattle.base.proofs.Bools.{and_left, and_right, and_true, cond_yes, cond_no}
use Rattle.base.proofs.Signed.{within_low, within_high, apart}
use Rattle.octets.specs.Powers.{power_in}
use Rattle.cuc.proofs.Widths.{power_pos, power_le, power_in_lem}
use Rattle.cuc.specs.Cuc.{is_epoch, is_width, is_layout, width}
use Rattle.cuc.specs.Inner.{Good}
use Rattle.cuc.specs.declared.Layout.{Layout}

pub widths : (l : Layout) → is_width l ≡ true → (1 ≤ l.coarse) × (l.coarse ≤ 4) × (l.fine ≤ 3)
unfolding is_width
widths l e =
    let (a, p) = and_true (leb 1 l.coarse) _ e in
    let (b, c) = and_true (leb l.coarse 4) _ p in
    (leb-true _ _ a, leb-true _ _ b, leb-true _ _ c)

pub layout_width : (l : Layout) → is_layout l ≡ true → is_width l ≡ true
unfolding is_layout
layout_width l e = and_left (is_width l) _ e

pub layout_good : (l : Layout) → is_layout l ≡ true → Good l
unfolding is_layout
layout_good l e =
    let (some, narrow, short) = widths l (layout_width l e) in
    let d = and_right (is_width l) _ e in
    let low = within_low (neg_ℤ (pos (2 ^ 40))) (pos (2 ^ 40 - 1)) l.epoch d in
    let high = within_high (neg_ℤ (pos (2 ^ 40))) (pos (2 ^ 40 - 1)) l.epoch d in
    record {
      is = e;
      some = some;
      narrow = narrow;
      short = short;
      low = omega (arith, apart l.epoch);
      high = omega (arith, apart l.epoch);
    }

pub judged_good : (l : Layout) → is_width l ≡ true → is_epoch l.epoch ≡ true → Good l
unfolding is_layout
judged_good l w e = layout_good l (rw w e)

pub layout_yes : (l : Layout) → 1 ≤ l.coarse → l.coarse ≤ 4 → l.fine ≤ 3 → is_epoch l.epoch ≡ true → is_layout l ≡ true
unfolding is_layout is_width
layout_yes l a b c d = rw (le-leb 1 l.coarse a, le-leb l.coarse 4 b, le-leb l.fine 3 c) d

-- the seconds that the field can hold, as the code's table has them
pub many_seconds : (l : Layout) → Good l → (n : ℕ) → n ≡ power_in 256 8 l.coarse → (n ≡ 256 ^ l.coarse) × (0 < 256 ^ l.coarse) × (256 ^ l.coarse ≤ 256 ^ 4)
many_seconds l g n e = (e ∙ power_in_lem l.coarse (omega (arith, g.narrow)), power_pos l.coarse, power_le l.coarse 4 g.narrow)

pub width_some : (l : Layout) → is_width l ≡ true → width l ≡ l.coarse + l.fine
unfolding width
width_some l e = cond_yes _ _ e

pub width_none : (l : Layout) → is_width l ≡ false → width l ≡ 0
unfolding width
width_none l e = cond_no _ _ e

pub width_is : (l : Layout) → is_layout l ≡ true → width l ≡ l.coarse + l.fine
width_is l e = width_some l (layout_width l e)

-- a T-field has 1 to 7 octets
pub width_range : (l : Layout) → is_layout l ≡ true → (1 ≤ width l) × (width l ≤ 7)
width_range l e = let g = layout_good l e in (omega (arith, width_is l e), omega (arith, width_is l e))
