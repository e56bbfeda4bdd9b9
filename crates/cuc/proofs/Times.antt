-- The times that two counts name: they are records, and stand in the order of their ticks from the epoch. Of a time that is written, the latest of them that is not after it.
use mathlib.Core.Path.{◌≡◌, refl, sym, ap, ◌∙◌}
use mathlib.Core.Bool.{Bool, true, false}
use Prim.Native.Nat.{ℕ, ◌+◌, ◌*◌, ◌^◌, ◌<◌, ◌≤◌}
use native.Mathlib.Nat.{add-mul, mul_assoc}
use native.Mathlib.Omega.{arith}
use borrow.Author.Tests.{ltb-true, ltb-false}
use lib.Dec.{ltb}
use lib.IntN.{ℤ, pos, ◌+ℤ◌, ◌*ℤ◌}
use Rattle.base.specs.Parts.{plus, minus}
use Rattle.base.proofs.Signed.{same, sum, line, apart, le_so, le_yes}
use Rattle.scale.specs.Time.{Time, per_second, worth, is_record}
use Rattle.scale.specs.Latest.{NotAfter}
use Rattle.scale.proofs.Fractions.{ticks_lt, part_le, part_most}
use Rattle.scale.proofs.Laws.{worth_parts, within_good}
use Rattle.cuc.specs.Cuc.{unit, time_of, since, holds, parts_of}
use Rattle.cuc.specs.Inner.{Good}
use Rattle.cuc.specs.declared.Layout.{Layout}
use Rattle.cuc.proofs.Widths.{power_le, grain}
use Rattle.cuc.proofs.Sources.{held_is}

-- ---- a time of two counts
-- by its seconds and its ticks
pub time_is : (l : Layout) (c f : ℕ) (r : Time) → plus r.sec + minus l.epoch ≡ minus r.sec + (plus l.epoch + c) → r.ticks ≡ f * unit l.fine → time_of l c f ≡ r
time_is l c f r s t =
    let e : l.epoch +ℤ pos c ≡ r.sec = same (l.epoch +ℤ pos c) r.sec (omega (arith, sum l.epoch (pos c))) in
    λ i. record { sec = e i; ticks = sym t i }

module _ (l : Layout) (g : Good l) (c f : ℕ) where
  pub valid_time : c < 256 ^ l.coarse → f < 256 ^ l.fine → is_record (time_of l c f) ≡ true
  valid_time h k =
      let near = apart (l.epoch +ℤ pos c) in
      let q : c < 2 ^ 32 = omega (arith, power_le l.coarse 4 g.narrow) in
      let s = sum l.epoch (pos c) in
      within_good (2 ^ 41) (time_of l c f) (record { low = omega (arith, near); high = omega (arith, near); below = ticks_lt (grain l.fine g.short) f k })

  -- the one count of both is in parts
  pub worth_time : worth (time_of l c f) ≡ l.epoch *ℤ pos per_second +ℤ pos ((c * 256 ^ l.fine + f) * unit l.fine)
  worth_time =
      let u = unit l.fine in
      let e : (c * 256 ^ l.fine + f) * u ≡ c * per_second + f * u = add-mul (c * 256 ^ l.fine) f u ∙ ap (λ (n : ℕ). n + f * u) (mul_assoc c (256 ^ l.fine) u ∙ ap (λ (n : ℕ). c * n) (grain l.fine g.short).all) in
      same (worth (time_of l c f)) (l.epoch *ℤ pos per_second +ℤ pos ((c * 256 ^ l.fine + f) * u))
      (omega (arith, e, worth_parts (time_of l c f), sum l.epoch (pos c), line l.epoch per_second ((c * 256 ^ l.fine + f) * u)))

-- ---- the order of times, by their seconds from one epoch
module _ (e : ℤ) (x y : Time) (a b : ℕ) (p : e +ℤ pos a ≡ x.sec) (q : e +ℤ pos b ≡ y.sec) where
  pub not_after : a * per_second + x.ticks ≤ b * per_second + y.ticks → NotAfter x y
  not_after h =
      le_so (worth x) (worth y)
      (omega (arith, ap plus p, ap minus p, ap plus q, ap minus q, worth_parts x, worth_parts y, sum e (pos a), sum e (pos b)))

  pub not_after_is : NotAfter x y → a * per_second + x.ticks ≤ b * per_second + y.ticks
  not_after_is h =
      omega (arith, le_yes (worth x) (worth y) h, ap plus p, ap minus p, ap plus q, ap minus q, worth_parts x, worth_parts y, sum e (pos a), sum e (pos b))

-- ---- a time that is written: the same second, and the whole parts of its ticks
abbrev pub floored : Layout → Time → Time
floored l r = time_of l (plus (since l r)) (parts_of l r)

module _ (l : Layout) (r : Time) (h : holds l r ≡ true) where
  pub same_second : (floored l r).sec ≡ r.sec
  same_second = (held_is l r h).0

  module _ (g : Good l) where
    pub floored_before : NotAfter (floored l r) r
    floored_before =
        let c = plus (since l r) in
        not_after l.epoch (floored l r) r c c refl same_second (omega (arith, part_le (grain l.fine g.short) r.ticks))

    -- an earlier second is earlier whatever its parts, and in the same second whole parts reach no further
    pub floored_latest : r.ticks < per_second → (c f : ℕ) → f < 256 ^ l.fine → NotAfter (time_of l c f) r → NotAfter (time_of l c f) (floored l r)
    floored_latest low c f k n = not_after l.epoch (time_of l c f) (floored l r) c d refl refl (go (ltb c d) refl)
      where
        d : ℕ
        d = plus (since l r)

        i : c * per_second + f * unit l.fine ≤ d * per_second + r.ticks
        i = not_after_is l.epoch (time_of l c f) r c d refl same_second n

        go : (b : Bool) → ltb c d ≡ b → c * per_second + f * unit l.fine ≤ d * per_second + parts_of l r * unit l.fine
        go true e = omega (arith, ltb-true c d e, ticks_lt (grain l.fine g.short) f k)
        go false e =
            let z : c ≡ d = omega (arith, ltb-false c d e, i, low) in
            omega (arith, z, part_most (grain l.fine g.short) r.ticks f (let j : f * unit l.fine ≤ r.ticks = omega (arith, z, i) in j))
