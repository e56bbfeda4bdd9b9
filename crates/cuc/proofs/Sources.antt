-- A time to be written: its whole seconds from the epoch, and whether the field holds them.
use mathlib.Core.Path.{◌≡◌, refl, sym, ap, ◌∙◌}
use mathlib.Core.Bool.{Bool, true, false}
use Prim.Native.Nat.{ℕ, ◌-◌, ◌^◌, ◌<◌}
use native.Mathlib.Omega.{arith}
use lib.IntN.{ℤ, pos, ◌+ℤ◌}
use Rattle.base.specs.Parts.{plus, minus, within}
use Rattle.base.specs.Seats.{seat_of}
use Rattle.base.proofs.Signed.{same, sum, difference, apart, within_low, within_high, within_yes, seat_in_lem, seat_out}
use Rattle.std.specs.Prelude.{Some, None}
use Rattle.scale.specs.Time.{Time}
use Rattle.cuc.specs.Cuc.{since, holds}
use Rattle.cuc.specs.declared.Layout.{Layout}
use Rattle.cuc.proofs.Widths.{power_pos}

module _ (l : Layout) (r : Time) where
  -- c seconds after the epoch
  module _ (c : ℕ) (e : l.epoch +ℤ pos c ≡ r.sec) where
    pub since_is : since l r ≡ pos c
    since_is = same (since l r) (pos c) (omega (arith, ap plus e, ap minus e, sum l.epoch (pos c), difference r.sec l.epoch))

    pub held_so : c < 256 ^ l.coarse → holds l r ≡ true
    unfolding holds
    held_so h = rw since_is (within_yes (pos 0) (pos (256 ^ l.coarse - 1)) (pos c) (omega arith) (omega arith))

  -- and what is held is that many seconds after the epoch
  pub held_is : holds l r ≡ true → (l.epoch +ℤ pos (plus (since l r)) ≡ r.sec) × (plus (since l r) < 256 ^ l.coarse)
  unfolding holds
  held_is e =
      let hi = pos (256 ^ l.coarse - 1) in
      let a = apart (since l r) in
      let low = within_low (pos 0) hi (since l r) e in
      let high = within_high (pos 0) hi (since l r) e in (
        same (l.epoch +ℤ pos (plus (since l r))) r.sec (omega (arith, sum l.epoch (pos (plus (since l r))), difference r.sec l.epoch)),
        omega (arith, power_pos l.coarse),
      )

  -- ---- the seat that the code finds, from the epoch to the last second that the field holds
  module _ (last : ℤ) (e : last ≡ l.epoch +ℤ pos (256 ^ l.coarse - 1)) where
    pub seat_held : (n : ℕ) → seat_of l.epoch last r.sec ≡ Some n → (holds l r ≡ true) × (plus (since l r) ≡ n)
    seat_held n h =
        let t = seat_in_lem l.epoch last r.sec n h in
        let s = sum l.epoch (pos (256 ^ l.coarse - 1)) in
        let i : l.epoch +ℤ pos n ≡ r.sec = same (l.epoch +ℤ pos n) r.sec (omega (arith, t.place, sum l.epoch (pos n))) in
        (held_so n i (omega (arith, t.place, t.high, ap plus e, ap minus e, s, power_pos l.coarse)), ap plus (since_is n i))

    pub seat_over : seat_of l.epoch last r.sec ≡ None → holds l r ≡ false
    seat_over h = go (holds l r) refl
      where
        go : (b : Bool) → holds l r ≡ b → holds l r ≡ false
        go false k = k
        go true k =
            let (i, n) = held_is k in
            let s = sum l.epoch (pos (256 ^ l.coarse - 1)) in
            let t = sum l.epoch (pos (plus (since l r))) in
            let y : within l.epoch last r.sec ≡ true = within_yes l.epoch last r.sec (omega (arith, ap plus i, ap minus i, t)) (omega (arith, ap plus i, ap minus i, t, ap plus e, ap minus e, s, n)) in
            k ∙ sym y ∙ seat_out l.epoch last r.sec h
