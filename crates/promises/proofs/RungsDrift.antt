-- A rate is refused by its rungs, and a run of pairs never is.
use mathlib.Core.Path.{◌≡◌, refl, ◌∙◌}
use mathlib.Core.Bool.{◌&&◌}
use mathlib.Core.List.{List}
use Prim.Native.Nat.{ℕ, ◌*◌, ◌%◌, ◌^◌}
use native.Mathlib.Nat.{mod-eq-zero_of_dvd, dvd_of_mod-eq-zero, mul-dvd-mul_right, dvd_of_mul-dvd-mul_right}
use native.Mathlib.Omega.{arith}
use lib.Dec.{ltb, lit<}
use lib.IntN.{ℤ, pos, neg_ℤ, nat_abs, ◌-ℤ◌}
use lib.Signed.{lt_z}
use borrow.Author.Tests.{eq-eqb, eqb-true, lt-ltb, ltb-true}
use Rattle.base.specs.Outcome.{done}
use Rattle.base.proofs.Bools.{and_left, and_right, and_yes}
use Rattle.base.proofs.Signed.{apart, neg_plus, neg_minus, difference, abs_is, lt_yes, lt_so}
use Rattle.scale.specs.Time.{Time, per_second, worth, is_record}
use Rattle.drift.specs.Rate.{Pair, step, of_all, on_grid, elapsed, short, passed, quotient_of}
use Rattle.drift.specs.Run.{report_of}
use Rattle.promises.specs.RungsDrift.{whole_steps, rate_rungs, rates_rungs}
use Rattle.promises.proofs.Rungs as P
use Rattle.promises.proofs.Rungs.{verdict, judged, both_ways}

on_grid_lem : (t : Time) → on_grid t ≡ whole_steps t
on_grid_lem t =
    both_ways (on_grid t) (whole_steps t)
    (λ h. eq-eqb (t.ticks * 2 ^ 24 % per_second) 0 (mod-eq-zero_of_dvd per_second (mul-dvd-mul_right step (dvd_of_mod-eq-zero step (eqb-true (t.ticks % step) 0 h)) (2 ^ 24))))
    (λ h. eq-eqb (t.ticks % step) 0 (mod-eq-zero_of_dvd step (dvd_of_mul-dvd-mul_right step (lit< tt) (dvd_of_mod-eq-zero per_second (eqb-true (t.ticks * 2 ^ 24 % per_second) 0 h)))))

-- less than so much in size, whatever the sign
sized : (n : ℕ) (z : ℤ) → ltb (nat_abs z) n ≡ lt_z (neg_ℤ (pos n)) z && lt_z z (pos n)
sized n z =
    let from = neg_ℤ (pos n) in
    both_ways (ltb (nat_abs z) n) (lt_z from z && lt_z z (pos n))
    (λ h.
    let s = ltb-true (nat_abs z) n h in
    and_yes (lt_z z (pos n)) (lt_so from z (omega (arith, s, abs_is z, neg_plus (pos n), neg_minus (pos n)))) ∙ lt_so z (pos n) (omega (arith, s, abs_is z)))
    (λ h.
    let low = lt_yes from z (and_left (lt_z from z) (lt_z z (pos n)) h) in
    let high = lt_yes z (pos n) (and_right (lt_z from z) (lt_z z (pos n)) h) in
    lt-ltb (nat_abs z) n (omega (arith, low, high, abs_is z, apart z, neg_plus (pos n), neg_minus (pos n))))

-- time has passed where the second record is later
later : (s t : ℤ) → passed (t -ℤ s) ≡ lt_z s t
later s t =
    both_ways (passed (t -ℤ s)) (lt_z s t)
    (λ h. lt_so s t (omega (arith, lt_yes (pos 0) (t -ℤ s) h, difference t s)))
    (λ h. lt_so (pos 0) (t -ℤ s) (omega (arith, lt_yes s t h, difference t s)))

pub rate_rungs_lem : (p q : Pair) → verdict (quotient_of p q) ≡ judged (rate_rungs p q)
unfolding quotient_of
rate_rungs_lem p q =
    let onboard = elapsed p.onboard q.onboard in
    let ground = elapsed p.ground q.ground in
    rw (← on_grid_lem p.onboard, ← on_grid_lem p.ground, ← on_grid_lem q.onboard, ← on_grid_lem q.ground, ← sized (2 ^ 32 * per_second) onboard, ← sized (2 ^ 32 * per_second) ground, ← later (worth p.ground) (worth q.ground))
    (P.step (of_all is_record p q) 7 _ _ (λ a.
    P.step (of_all on_grid p q) 11 _ _ (λ b.
    P.step (short onboard && short ground) 7 _ _ (λ c.
    P.step (passed ground) 10 _ _ (λ d. refl)))))

pub rates_rungs_lem : (run : List Pair) → verdict (done (report_of run)) ≡ judged (rates_rungs run)
rates_rungs_lem run = refl
