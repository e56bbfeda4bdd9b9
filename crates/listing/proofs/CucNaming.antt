-- What a CUC tag names: by its worth, by its seconds, on the axis of raised seconds, and by the octets that it has of them.
use mathlib.Core.Bool.{true}
use mathlib.Core.Logic.{◌↔◌}
use mathlib.Core.Path.{◌≡◌, sym, ap, ◌∙◌}
use Prim.Native.Nat.{ℕ, ◌+◌, ◌*◌, ◌-◌, ◌/◌, ◌^◌, ◌<◌, ◌≤◌}
use native.Mathlib.Nat.{div-add-mod'}
use native.Mathlib.Omega.{arith}
use lib.Arith.{digits_mod}
use lib.IntN.{pos, ◌+ℤ◌}
use Rattle.base.specs.Parts.{plus, minus}
use Rattle.base.proofs.Signed.{same, sum, apart}
use Rattle.scale.specs.Time.{Time, per_second, worth}
use Rattle.scale.proofs.Fractions.{ticks_lt}
use Rattle.scale.proofs.Laws.{worth_parts}
use Rattle.window.specs.Seconds.{raised_by}
use Rattle.counter.specs.Counter.{names}
use Rattle.counter.proofs.Laws.{named_at, named_is}
use Rattle.cuc.specs.Cuc.{time_of}
use Rattle.cuc.specs.Inner.{Good}
use Rattle.cuc.specs.declared.Layout as U
use Rattle.cuc.proofs.Widths.{grain}
use Rattle.listing.specs.CucTag.{Periodic, Names, CutTo}

-- ---- by the seconds: the ticks are the first one's
module _ (g : Periodic) (m : Time) where
  abbrev pub Follows : Type 0
  Follows = (k : ℕ) × ((m.sec ≡ g.first.sec +ℤ pos (k * g.period)) × (m.ticks ≡ g.first.ticks))

  pub follows_named : Follows → Names g m
  follows_named (k, (e, t)) =
      let n = k * g.period in (
        k,
        same (worth m) (worth g.first +ℤ pos (n * per_second))
            (omega (arith, ap plus e, ap minus e, sum g.first.sec (pos n), worth_parts m, worth_parts g.first, sum (worth g.first) (pos (n * per_second)))),
      )

  module _ (low : m.ticks < per_second) (first_low : g.first.ticks < per_second) where
    pub named_follows : Names g m → Follows
    named_follows (k, w) =
        let n = k * g.period in
        let u = worth_parts m in
        let v = worth_parts g.first in
        let z = sum (worth g.first) (pos (n * per_second)) in (
          k,
          (
            same m.sec (g.first.sec +ℤ pos n) (omega (arith, ap plus w, ap minus w, sum g.first.sec (pos n))),
            omega (arith, ap plus w, ap minus w),
          ),
        )

-- ---- on the axis of raised seconds
module _ (B : ℕ) (g : Periodic) (m : Time) (f : minus g.first.sec ≤ B) where
  abbrev pub Counted : Type 0
  Counted = (names (raised_by B g.first.sec) g.period (raised_by B m.sec) ≡ true) × (m.ticks ≡ g.first.ticks)

  pub counted_follows : minus m.sec ≤ B → Counted → Follows g m
  counted_follows l (n, t) =
      let b = raised_by B g.first.sec in
      let x = raised_by B m.sec in
      let k = (x - b) / g.period in
      let h : x ≡ b + k * g.period = named_is b g.period x n in
      (k, (same m.sec (g.first.sec +ℤ pos (k * g.period)) (omega (arith, sum g.first.sec (pos (k * g.period)))), t))

  pub follows_counted : Follows g m → Counted
  follows_counted (k, (e, t)) =
      let b = raised_by B g.first.sec in
      let h : raised_by B m.sec ≡ b + k * g.period = omega (arith, ap plus e, ap minus e, sum g.first.sec (pos (k * g.period)), apart m.sec) in
      (ap (names b g.period) h ∙ named_at b g.period k, t)

-- ---- by the octets of the layout: cut to them, the seconds from the epoch are the tag's
module _ (l : U.Layout) (g : Good l) (c f : ℕ) (m : Time) where
  abbrev tag : Periodic
  tag = record { first = time_of l c f; period = 256 ^ l.coarse }

  follows_cut : c < 256 ^ l.coarse → Follows tag m → CutTo l c f m
  follows_cut h (k, (e, t)) =
      let n = k * 256 ^ l.coarse in (
        n + c,
        (
          same m.sec (l.epoch +ℤ pos (n + c)) (omega (arith, ap plus e, ap minus e, sum l.epoch (pos c), sum (l.epoch +ℤ pos c) (pos n), sum l.epoch (pos (n + c)))),
          digits_mod k h,
          t,
        ),
      )

  cut_follows : CutTo l c f m → Follows tag m
  cut_follows (n, (e, i, t)) =
      let k = n / 256 ^ l.coarse in
      let d : n ≡ k * 256 ^ l.coarse + c = sym (div-add-mod' n (256 ^ l.coarse)) ∙ ap (λ (r : ℕ). k * 256 ^ l.coarse + r) i in (
        k,
        (
          same m.sec (l.epoch +ℤ pos c +ℤ pos (k * 256 ^ l.coarse)) (omega (arith, ap plus e, ap minus e, sum l.epoch (pos n), sum l.epoch (pos c), sum (l.epoch +ℤ pos c) (pos (k * 256 ^ l.coarse)))),
          t,
        ),
      )

  -- the tag names m exactly when m is at or after the epoch, has the tag's ticks, and its seconds from the epoch, cut to the coarse octets, are the tag's
  pub names_cut : c < 256 ^ l.coarse → f < 256 ^ l.fine → m.ticks < per_second → Names tag m ↔ CutTo l c f m
  names_cut h k low = (
    λ n. follows_cut h (named_follows tag m low (ticks_lt (grain l.fine g.short) f k) n),
    λ x. follows_named tag m (cut_follows x),
  )
