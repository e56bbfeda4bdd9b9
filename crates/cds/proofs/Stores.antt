-- The laws of writing: the day's place in the field, and the three numbers stored one after another.
use mathlib.Core.Path.{◌≡◌, refl, sym, ap, ◌∙◌}
use mathlib.Core.Bool.{Bool, true, false}
use mathlib.Core.List.{List, ◌++◌}
use Prim.Native.Nat.{ℕ, ◌+◌, ◌-◌, ◌^◌, ◌<◌, ◌≤◌}
use native.Mathlib.Nat.{one-le-pow}
use native.Mathlib.Omega.{arith}
use lib.Dec.{lit<}
use lib.IntN.{ℤ, pos, nat_abs, ◌+ℤ◌, ◌-ℤ◌}
use lib.ListN.{length, length-append}
use Rattle.base.specs.Parts.{plus, minus, within}
use Rattle.base.specs.declared.Refusal.TheVariants.{Room}
use Rattle.base.proofs.Signed.{same, sum, difference, apart, abs_is, within_low, within_high, within_yes, seat_in_lem, seat_out}
use Rattle.octets.specs.Places.{octet_of, octets}
use Rattle.octets.specs.Stores.{pasted, Stored}
use Rattle.octets.specs.Writes.{roomed, Wrote}
use Rattle.octets.proofs.Places.{length_places}
use Rattle.octets.proofs.Pastes.{length_pasted, then, stored}
use Rattle.octets.proofs.Writes.{refuses, room_in, room_out, fills}
use Rattle.cds.specs.Cds.{held, in_octets}
use Rattle.base.specs.Seats.{seat_of}
use Rattle.cds.specs.declared.Layout.{Layout}
use Rattle.std.specs.Prelude.{Ok, Err, Some, None}

-- ---- the count of days from the epoch
module _ (l : Layout) (z : ℤ) where
  -- d days after the epoch
  gap : (d : ℕ) → l.epoch +ℤ pos d ≡ z → (plus (z -ℤ l.epoch) ≡ d) × (minus (z -ℤ l.epoch) ≡ 0)
  gap d e =
      let s = sum l.epoch (pos d) in
      let f = difference z l.epoch in
      let a = apart (z -ℤ l.epoch) in
      (omega (arith, ap plus e, ap minus e, s, f, a), omega (arith, ap plus e, ap minus e, s, f, a))

  pub held_so : (d : ℕ) → l.epoch +ℤ pos d ≡ z → d < 256 ^ l.day → (held l z ≡ true) × (nat_abs (z -ℤ l.epoch) ≡ d)
  unfolding held
  held_so d e h =
      let g = gap d e in (
        within_yes (pos 0) (pos (256 ^ l.day - 1)) (z -ℤ l.epoch) (omega (arith, g)) (omega (arith, g)),
        abs_is (z -ℤ l.epoch) ∙ omega (arith, g),
      )

  -- and what is held is that many days after the epoch
  pub held_is : held l z ≡ true → (l.epoch +ℤ pos (nat_abs (z -ℤ l.epoch)) ≡ z) × (nat_abs (z -ℤ l.epoch) < 256 ^ l.day)
  unfolding held
  held_is e =
      let low = within_low (pos 0) (pos (256 ^ l.day - 1)) (z -ℤ l.epoch) e in
      let high = within_high (pos 0) (pos (256 ^ l.day - 1)) (z -ℤ l.epoch) e in
      let n = abs_is (z -ℤ l.epoch) in
      let a = apart (z -ℤ l.epoch) in
      let k : 1 ≤ 256 ^ l.day = one-le-pow l.day 256 (lit< tt) in (
        same (l.epoch +ℤ pos (nat_abs (z -ℤ l.epoch))) z
            (omega (arith, low, n, a, sum l.epoch (pos (nat_abs (z -ℤ l.epoch))), difference z l.epoch)),
        omega (arith, low, high, n, a),
      )

  -- ---- the seat that the code finds, from the epoch day to the last day that the field holds
  module _ (last : ℤ) (e : last ≡ l.epoch +ℤ pos (256 ^ l.day - 1)) where
    pub seat_held : (n : ℕ) → seat_of l.epoch last z ≡ Some n → (held l z ≡ true) × (nat_abs (z -ℤ l.epoch) ≡ n)
    seat_held n h =
        let t = seat_in_lem l.epoch last z n h in
        let s = sum l.epoch (pos (256 ^ l.day - 1)) in
        let k : 1 ≤ 256 ^ l.day = one-le-pow l.day 256 (lit< tt) in
        held_so n (same (l.epoch +ℤ pos n) z (omega (arith, t.place, sum l.epoch (pos n)))) (omega (arith, t.place, t.high, ap plus e, ap minus e, s))

    pub seat_over : seat_of l.epoch last z ≡ None → held l z ≡ false
    seat_over h = go (held l z) refl
      where
        go : (b : Bool) → held l z ≡ b → held l z ≡ false
        go false k = k
        go true k =
            let (i, n) = held_is k in
            let s = sum l.epoch (pos (256 ^ l.day - 1)) in
            let t = sum l.epoch (pos (nat_abs (z -ℤ l.epoch))) in
            let y : within l.epoch last z ≡ true = within_yes l.epoch last z (omega (arith, ap plus i, ap minus i, t)) (omega (arith, ap plus i, ap minus i, t, ap plus e, ap minus e, s, n)) in
            k ∙ sym y ∙ seat_out l.epoch last z h

-- ---- the T-field, stored
module _ (l : Layout) (d m p : ℕ) where
  pub length_laid : length (in_octets l d m p) ≡ l.day + 4 + l.part
  unfolding in_octets
  length_laid =
      simp length-append
      (omega (arith, length_places 256 octet_of l.day d, length_places 256 octet_of 4 m, length_places 256 octet_of l.part p))

  module _ (at : ℕ) (d0 : List ℕ) where
    pub laid_out : length d0 < at + (l.day + 4 + l.part) → Wrote (roomed d0 at (in_octets l d m p)) at d0 d0 (Err Room)
    laid_out h = refuses Room _ at d0 (room_out (in_octets l d m p) at d0 (omega (arith, length_laid)))

    pub laid_in : {d1 d2 d3 : List ℕ} {q r s : Bool} → at + (l.day + 4 + l.part) ≤ length d0 → Stored (octets l.day d) at d0 d1 q → Stored (octets 4 m) (at + l.day) d1 d2 r → Stored (octets l.part p) (at + l.day + 4) d2 d3 s → Wrote (roomed d0 at (in_octets l d m p)) at d0 d3 (Ok (at + (l.day + 4 + l.part)))
    unfolding in_octets
    laid_in {d1} {d2} {d3} h f g k =
        let A = octets l.day d in
        let B = octets 4 m in
        let C = octets l.part p in
        let a : length A ≡ l.day = length_places 256 octet_of l.day d in
        let b : length B ≡ 4 = length_places 256 octet_of 4 m in
        let c : length C ≡ l.part = length_places 256 octet_of l.part p in
        let e1 : d1 ≡ pasted d0 at A = (stored (omega arith) f).1 in
        let n1 : length d1 ≡ length d0 = ap length e1 ∙ length_pasted d0 at A (omega arith) in
        let e2 : d2 ≡ pasted d0 at (A ++ B) = then d0 A B at (at + l.day) e1 (stored (omega arith) g).1 (omega arith) (omega arith) in
        let ab : length (A ++ B) ≡ l.day + 4 = omega (arith, length-append A B) in
        let n2 : length d2 ≡ length d0 = ap length e2 ∙ length_pasted d0 at (A ++ B) (omega arith) in
        let e3 : d3 ≡ pasted d0 at (A ++ B ++ C) = then d0 (A ++ B) C at (at + l.day + 4) e2 (stored (omega arith) k).1 (omega arith) (omega arith) in
        fills (in_octets l d m p) _ at _ d0 d3 (room_in (in_octets l d m p) at d0 (omega (arith, length_laid))) (omega (arith, length_laid)) e3
