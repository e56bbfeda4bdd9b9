-- Fractions of so many decimal pairs: a pair is two digits.
use mathlib.Core.Path.{◌≡◌, refl}
use mathlib.Core.List.{List}
use Prim.Native.Nat.{ℕ, zero, suc, ◌*◌, ◌/◌, ◌^◌, ◌<◌, ◌≤◌}
use native.Mathlib.Nat.{pow-suc}
use native.Mathlib.Omega.{arith}
use Rattle.scale.specs.Time.{per_second}
use Rattle.scale.proofs.Fractions.{Grain, ticks_lt}
use Rattle.octets.specs.Counts.{bcd_at}
use Rattle.moment.proofs.Decimal as D
use Rattle.ccs.proofs.Pairs.{pair_read}
use Rattle.std.specs.Prelude.{Ok}

pub grain : (w : ℕ) → w ≤ 6 → Grain per_second (10 ^ (w * 2))
grain w h = D.grain (w * 2) (omega arith)

pub pair_digits : (w : ℕ) → 100 ^ w ≡ 10 ^ (w * 2)
pair_digits zero = refl
pair_digits (suc w) =
    let e : suc w * 2 ≡ suc (suc (w * 2)) = omega arith in
    rw (e, pow-suc 100 w, pow-suc 10 (suc (w * 2)), pow-suc 10 (w * 2), pair_digits w) (omega arith)

-- the ticks of a fraction that was read are less than a second
pub ticks_below : (s : List ℕ) (at w n : ℕ) → w ≤ 6 → bcd_at s at w ≡ Ok n → n * (per_second / 10 ^ (w * 2)) < per_second
ticks_below s at w n h e = ticks_lt (grain w h) n (rw (pair_digits w) at (pair_read s at w n e).0)

pub some_ticks : (w : ℕ) → w ≤ 6 → 0 < per_second / 10 ^ (w * 2)
some_ticks w h = (grain w h).some
