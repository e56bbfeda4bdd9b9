-- The quotient of two elapsed times: why there is none, and what it is.
use mathlib.Core.Path.{◌≡◌, sym, ap, ◌∙◌}
use mathlib.Core.Bool.{true, ◌&&◌}
use Prim.Native.Nat.{ℕ, ◌*◌, ◌-◌, ◌<◌, ◌≤◌}
use native.Mathlib.Omega.{arith}
use lib.IntN.{ℤ, pos, nat_abs}
use Rattle.std.specs.Prelude.{Option, Some, None}
use Rattle.base.specs.Outcome.{done, refused}
use Rattle.base.proofs.Bools.{and_no, and_false, and_yes}
use Rattle.base.proofs.Ladders.{need_yes, need_no}
use Rattle.base.proofs.Signed.{apart, abs_is, lower_at, lt_so, lt_not, within_high}
use Rattle.drift.specs.Steps.{most, least, near, in_ticks, ratio, rated}
use Rattle.drift.specs.Inner.{Elapses}

made : {n m : ℤ} {d e : ℕ} → n ≡ m → d ≡ e → in_ticks n d ≡ in_ticks m e
made p q = rw (p, q)

pub at_most : (x : ℤ) {o : Option ℕ} {n : ℕ} → Elapses x o → o ≡ Some n → n ≤ 2 * most
at_most x {o} {n} p e = let (h, a) = rw e at p in omega (arith, a, within_high least (pos most) x h)

module _ (x y : ℤ) where
  pub no_onboard : {o : Option ℕ} → Elapses x o → o ≡ None → refused 7 ≡ rated x y
  unfolding rated
  no_onboard p e = sym (need_no 7 _ (and_no (near y) (rw e at p)))

  pub no_ground : {o : Option ℕ} → Elapses y o → o ≡ None → refused 7 ≡ rated x y
  unfolding rated
  no_ground p e = sym (need_no 7 _ (and_false (near x) (near y) (rw e at p)))

  module _ (n d : ℕ) {o r : Option ℕ} (p : Elapses x o) (q : Elapses y r) (e : o ≡ Some n) (f : r ≡ Some d) where
    inside : near x && near y ≡ true
    inside = and_yes (near y) (rw e at p).0 ∙ (rw f at q).0

    pub not_elapsed : d ≤ most → refused 10 ≡ rated x y
    unfolding rated
    not_elapsed h =
        let b = (rw f at q).1 in
        sym (need_yes 7 _ inside ∙ need_no 10 _ (lt_not (pos 0) y (omega (arith, b))))

    pub is_rate : most < d → done (ratio n (d - most)) ≡ rated x y
    unfolding rated
    is_rate h =
        let a = (rw e at p).1 in
        let b = (rw f at q).1 in
        let k : d - most ≡ nat_abs y = omega (arith, b, abs_is y, apart y) in
        ap done (made (lower_at most n x a) k) ∙ sym (need_yes 7 _ inside ∙ need_yes 10 _ (lt_so (pos 0) y (omega (arith, b))))
