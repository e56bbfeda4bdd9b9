-- The laws of a layout, of a millisecond's parts and of reading a T-field.
use mathlib.Core.Path.{◌≡◌, refl, sym, ◌∙◌}
use mathlib.Core.Bool.{Bool, true, false, cond, ◌||◌, false≢true}
use Prim.Native.Nat.{ℕ, ◌+◌, ◌-◌, ◌/◌, ◌^◌, ◌<◌, ◌≤◌}
use native.Mathlib.Nat.{one-le-pow, pow-le-pow_right}
use native.Mathlib.Omega.{arith}
use mathlib.Core.List.{List}
use borrow.Author.Tests.{eqb-true, le-leb, lt-ltb}
use lib.Dec.{leb, eqb, lit<, lit≤}
use lib.IntN.{pos, neg_ℤ, ◌+ℤ◌}
use lib.ListN.{length}
use Rattle.base.specs.Outcome.{done, refused, need, and_then}
use Rattle.base.specs.Said.{said}
use Rattle.base.specs.Refusals.{number}
use Rattle.base.specs.declared.Refusal.{Refusal}
use Rattle.base.specs.declared.Refusal.TheVariants.{Range}
use Rattle.octets.specs.Powers.{power_in}
use Rattle.octets.specs.Writes.{roomed, Wrote}
use Rattle.octets.proofs.Writes.{refuses}
use Rattle.moment.specs.declared.Moment.{Moment}
use Rattle.base.proofs.Bools.{and_left, and_right, and_true, cond_yes, cond_no}
use Rattle.base.proofs.Ladders.{need_yes, needs_yes, needs_done, unsettled}
use Rattle.base.proofs.Signed.{within_low, within_high, neg_plus, neg_minus, apart}
use Rattle.scale.proofs.Fractions.{Grain}
use Rattle.octets.specs.Places.{octet_value, octet_good}
use Rattle.octets.specs.Counts.{count_at}
use Rattle.octets.proofs.Places.{octet_rule}
use Rattle.octets.proofs.Counts.{Read, told, read_lt}
use Rattle.moment.specs.Moment.{moment, is_moment}
use Rattle.cds.specs.Cds.{is_epoch_day, is_width, is_layout, settled, width, parts, per_millisecond, fraction, moment_by, field, held, coded, bytes_of}
use Rattle.cds.specs.Inner.{Good}
use Rattle.cds.specs.declared.Layout.{Layout}
use Rattle.std.specs.Prelude.{Ok, Err}

-- ---- a millisecond is a whole number of parts, each a whole number of ticks
pub grain : (w : ℕ) → Grain per_millisecond (parts w)
grain w = go (eqb w 0) (eqb w 2)
  where
    go : (a b : Bool) → Grain per_millisecond (cond a 1 (cond b 1000 1000000000))
    go true b = record { some = lit< tt; all = refl }
    go false true = record { some = lit< tt; all = refl }
    go false false = record { some = lit< tt; all = refl }

pub many_pos : (w : ℕ) → 0 < parts w
many_pos w = go (eqb w 0) (eqb w 2)
  where
    go : (a b : Bool) → 0 < cond a 1 (cond b 1000 1000000000)
    go true b = lit< tt
    go false true = lit< tt
    go false false = lit< tt

-- ---- a layout, of its parts
day_is : (w : ℕ) → (eqb w 2 || eqb w 3) ≡ true → w ≤ 3
day_is w e = go (eqb w 2) (eqb w 3) refl refl e
  where
    go : (a b : Bool) → eqb w 2 ≡ a → eqb w 3 ≡ b → (a || b) ≡ true → w ≤ 3
    go true b p q e = omega (arith, eqb-true w 2 p)
    go false true p q e = omega (arith, eqb-true w 3 q)
    go false false p q e = absurd (false≢true e)

part_is : (w : ℕ) → (eqb w 0 || eqb w 2 || eqb w 4) ≡ true → (w ≤ 4) × (parts w ≤ 256 ^ w)
part_is w e = go (eqb w 0) (eqb w 2) (eqb w 4) refl refl refl e
  where
    go : (a b c : Bool) → eqb w 0 ≡ a → eqb w 2 ≡ b → eqb w 4 ≡ c → (a || b || c) ≡ true → (w ≤ 4) × (parts w ≤ 256 ^ w)
    go true b c p q r e = let z : w ≡ 0 = eqb-true w 0 p in rw z (lit≤ tt, lit≤ tt)
    go false true c p q r e = let z : w ≡ 2 = eqb-true w 2 q in rw z (lit≤ tt, lit≤ tt)
    go false false true p q r e = let z : w ≡ 4 = eqb-true w 4 r in rw z (lit≤ tt, lit≤ tt)
    go false false false p q r e = absurd (false≢true e)

pub widths : (l : Layout) → is_width l ≡ true → (l.day ≤ 3) × (l.part ≤ 4) × (parts l.part ≤ 256 ^ l.part)
unfolding is_width
widths l e =
    let (d, p) = and_true (eqb l.day 2 || eqb l.day 3) _ e in
    let (w, fit) = part_is l.part p in
    (day_is l.day d, w, fit)

pub few : (l : Layout) → is_width l ≡ true → l.day + 4 + l.part ≤ 11
few l e = omega (arith, widths l e)

pub layout_width : (l : Layout) → is_layout l ≡ true → is_width l ≡ true
unfolding is_layout
layout_width l e = and_left (is_width l) _ e

pub layout_good : (l : Layout) → is_layout l ≡ true → Good l
unfolding is_layout
layout_good l e =
    let lo = neg_ℤ (pos (2 ^ 24)) in
    let hi = pos (2 ^ 24 - 1) in
    let (day, part, fit) = widths l (layout_width l e) in
    let w = and_right (is_width l) _ e in
    let low = within_low lo hi l.epoch w in
    let high = within_high lo hi l.epoch w in
    record {
      is = e;
      low = omega (arith, neg_plus (pos (2 ^ 24)), neg_minus (pos (2 ^ 24)), apart l.epoch);
      high = omega (arith, apart l.epoch);
      day = day;
      part = part;
      fit = fit;
    }

pub judged_good : (l : Layout) → is_width l ≡ true → is_epoch_day l.epoch ≡ true → Good l
unfolding is_layout
judged_good l w e = layout_good l (rw w e)

-- the days that a field can hold, as the code's table has them
pub many_days : (l : Layout) → Good l → (n : ℕ) → n ≡ power_in 256 8 l.day → (n ≡ 256 ^ l.day) × (0 < 256 ^ l.day) × (256 ^ l.day ≤ 256 ^ 3)
many_days l g n e =
    (e ∙ cond_yes _ _ (lt-ltb l.day 8 (omega (arith, g.day))), one-le-pow l.day 256 (lit< tt), pow-le-pow_right (lit< tt) g.day)

pub width_some : (l : Layout) → is_width l ≡ true → width l ≡ l.day + 4 + l.part
unfolding width
width_some l e = cond_yes _ _ e

pub width_none : (l : Layout) → is_width l ≡ false → width l ≡ 0
unfolding width
width_none l e = cond_no _ _ e

pub width_is : (l : Layout) → is_layout l ≡ true → width l ≡ l.day + 4 + l.part
width_is l e = width_some l (layout_width l e)

-- ---- what octets read to fits them
pub count_told : (s : List ℕ) (at w n : ℕ) → count_at s at w ≡ Ok n → Read 256 octet_value octet_good 8 s at w n w
count_told s at w n e = told 256 octet_value octet_good 8 s at w (Ok n) e

pub count_lt : (s : List ℕ) (at w n : ℕ) → count_at s at w ≡ Ok n → n < 256 ^ w
count_lt s at w n e = read_lt (count_told s at w n e) octet_rule

pub days_lt : (s : List ℕ) (at : ℕ) (l : Layout) (n : ℕ) → Good l → count_at s at l.day ≡ Ok n → n < 2 ^ 24
days_lt s at l n g e =
    let z : 256 ^ l.day ≤ 256 ^ 3 = pow-le-pow_right (lit< tt) g.day in
    omega (arith, z, count_lt s at l.day n e)

-- ---- the rungs of a T-field's reading
-- the moment of three numbers that keep their rules
module _ (l : Layout) (d m p : ℕ) where
  pub timed_is : m ≤ 86400999 → p < parts l.part → moment_by l d m p ≡ done (moment (l.epoch +ℤ pos d) (m / 1000) (fraction l.part m p))
  unfolding moment_by
  timed_is h k = need_yes 4 _ (le-leb m 86400999 h) ∙ need_yes 4 _ (lt-ltb p (parts l.part) k)

module _ (s : List ℕ) (at : ℕ) (l : Layout) where
  -- a layout that is none is refused before the bytes are looked at
  pub field_unjudged : (n : ℕ) → refused n ≡ settled l (done l) → refused n ≡ field s at l
  unfolding field
  field_unjudged n h = unsettled (is_width l) (is_epoch_day l.epoch) 3 7 l _ n h

  -- and of one of the code, its rungs
  pub rungs : Good l → field s at l ≡ need (leb (at + (l.day + 4 + l.part)) (length s)) 1 (and_then (said (count_at s at l.day)) (λ d. and_then (said (count_at s (at + l.day) 4)) (λ m. and_then (said (count_at s (at + l.day + 4) l.part)) (λ p. moment_by l d m p))))
  unfolding field is_layout
  rungs g = needs_yes (is_width l) _ 3 7 _ g.is ∙ rw (width_is l g.is)

  pub field_is : is_layout l ≡ true → (d m p : ℕ) → at + (l.day + 4 + l.part) ≤ length s → count_at s at l.day ≡ Ok d → count_at s (at + l.day) 4 ≡ Ok m → count_at s (at + l.day + 4) l.part ≡ Ok p → field s at l ≡ moment_by l d m p
  field_is e d m p h a b c = rungs (layout_good l e) ∙ rw (le-leb _ _ h, a, b, c)

-- ---- the rungs of its writing
module _ (l : Layout) (m : Moment) (at : ℕ) (d : List ℕ) where
  pub write_unjudged : (why : Refusal) → refused (number why) ≡ settled l (done l) → Wrote (and_then (bytes_of l m) (roomed d at)) at d d (Err why)
  unfolding bytes_of
  write_unjudged why h =
      refuses why _ at d (rw (← unsettled (is_width l) (is_epoch_day l.epoch) 3 7 l (need (is_moment m) 7 (need (held l m.day) 7 (done (coded l m)))) (number why) h))

  pub write_invalid : (x : Layout) → done x ≡ settled l (done l) → is_moment m ≡ false → Wrote (and_then (bytes_of l m) (roomed d at)) at d d (Err Range)
  unfolding bytes_of
  write_invalid x h v =
      let e = needs_done (is_width l) (is_epoch_day l.epoch) 3 7 (done l) x (sym h) in
      refuses Range _ at d (rw (and_left (is_width l) _ e.0, and_right (is_width l) _ e.0, v))
