-- The laws of a counter tag, over any period.
use mathlib.Core.Bool.{Bool, true, false, ◌&&◌}
use mathlib.Core.List.{List, ◌∷◌}
use mathlib.Core.Logic.{⊎_elim}
use mathlib.Core.Path.{◌≡◌, refl, sym, ◌∙◌, ap, subst}
use Prim.Native.Nat.{ℕ, zero, suc, ◌+◌, ◌-◌, ◌*◌, ◌/◌, ◌%◌, ◌^◌, ◌≤◌, ◌<◌}
use native.Mathlib.Nat.{div-mul-le_self, lt-div-mul-add, div-add-mod', mod-lt, add-div_right, eq-zero-or-pos, mul-mod_left, add-mul-mod_self_right}
use native.Mathlib.Omega.{arith}
use lib.Arith.{digits_div, digits_mod}
use lib.Dec.{leb, eqb}
use lib.ListN.{length}
use borrow.Author.Tests.{le-leb, lt-leb, eq-eqb, ne_eqb, leb-true, eqb-true}
use Rattle.window.specs.Window.{Unnamed, named_in}
use Rattle.window.proofs.Moments.{bit, bit_true, bit_false, count_is, count_up, le_or_lt, skip, hit}
use Rattle.counter.specs.Counter.{names, count_below, in_reach}

and_true : (a b : Bool) → (a && b) ≡ true → (a ≡ true) × (b ≡ true)
and_true true b e = (refl, e)
and_true false b e = let z : ◌≡◌ {A = ℕ} 0 1 = cc in absurd (omega arith)

-- what a good tag and window say of the numbers
pub record Good (base period from to : ℕ) : Type 0 where
  pub some : 0 < period
  pub short : period ≤ 2 ^ 63
  pub based : base ≤ 2 ^ 63
  pub starts : from ≤ 2 ^ 63
  pub ends : to ≤ 2 ^ 63

pub good_is : (base period from to : ℕ) → in_reach base period from to ≡ true → Good base period from to
unfolding in_reach
good_is base period from to e =
    let a = and_true _ _ e in
    let b = and_true _ _ a.1 in
    let c = and_true _ _ b.1 in
    let d = and_true _ _ c.1 in
    record {
      some = leb-true 1 period a.0;
      short = leb-true _ _ b.0;
      based = leb-true _ _ c.0;
      starts = leb-true _ _ d.0;
      ends = leb-true _ _ d.1;
    }

pub good_so : (base period from to : ℕ) → Good base period from to → in_reach base period from to ≡ true
unfolding in_reach
good_so base period from to g =
    rw (le-leb 1 period g.some, le-leb period (2 ^ 63) g.short, le-leb base (2 ^ 63) g.based, le-leb from (2 ^ 63) g.starts, le-leb to (2 ^ 63) g.ends)

pub bad_so : (base period from to : ℕ) → (Good base period from to → ⊥) → in_reach base period from to ≡ false
bad_so base period from to h = go (in_reach base period from to) refl
  where
    go : (b : Bool) → in_reach base period from to ≡ b → in_reach base period from to ≡ false
    go true e = absurd (h (good_is base period from to e))
    go false e = e

late_at : (base period x : ℕ) → base ≤ x → names base period x ≡ eqb ((x - base) % period) 0
unfolding names
late_at base period x h = rw (le-leb base x h)

module _ (base period : ℕ) where
  early : {x : ℕ} → x < base → names base period x ≡ false
  unfolding names
  early {x} h = rw (lt-leb base x h)

  late : {x : ℕ} → base ≤ x → names base period x ≡ eqb ((x - base) % period) 0
  late {x} h = late_at base period x h

  -- base + k × period is named, and nothing else is
  pub named_at : (k : ℕ) → names base period (base + k * period) ≡ true
  named_at k =
      let e : base + k * period - base ≡ k * period = omega arith in
      let m : (base + k * period - base) % period ≡ 0 = rw e (mul-mod_left k period) in
      late (omega arith) ∙ eq-eqb _ 0 m

  pub named_is : (x : ℕ) → names base period x ≡ true → x ≡ base + (x - base) / period * period
  unfolding names
  named_is x t =
      let q : (leb base x ≡ true) × (eqb ((x - base) % period) 0 ≡ true) = and_true _ _ t in
      let l : base ≤ x = leb-true base x q.0 in
      let m : (x - base) % period ≡ 0 = eqb-true _ 0 q.1 in
      omega (arith, div-add-mod' (x - base) period)

  -- the next one is a period on
  pub again : (x : ℕ) → names base period x ≡ true → names base period (x + period) ≡ true
  again x t =
      subst (λ (y : ℕ). names base period y ≡ true) (omega (arith, named_is x t)) (named_at ((x - base) / period + 1))

  -- from a named one on, what it and its period name is what is named
  pub shifted : (n m k : ℕ) → m ≡ base + n * period → m ≤ k → names base period k ≡ names m period k
  shifted n m k i h =
      let e : k - base ≡ k - m + n * period = omega arith in
      late (omega arith) ∙ rw (e, add-mul-mod_self_right (k - m) n period) (sym (late_at m period k h))

  -- NO NAMED ONE BETWEEN TWO CONSECUTIVE NAMED ONES
  pub gap : (x y : ℕ) → names base period x ≡ true → x < y → y < x + period → names base period y ≡ false
  gap x y t h g =
      let k : ℕ = (x - base) / period in
      let e : y - base ≡ k * period + (y - x) = omega (arith, named_is x t) in
      let m : (y - base) % period ≡ y - x = rw e (digits_mod k (omega arith)) in
      late (omega (arith, named_is x t)) ∙ ne_eqb ((y - base) % period) 0 (λ z. omega arith)

  module _ (pos : 0 < period) where
    -- the first one from x on
    pub first_from : (x : ℕ) → x ≤ base + count_below base period x * period
    unfolding count_below
    first_from x = omega (arith, lt-div-mul-add {a = x - base + (period - 1)} pos)

    none_by_lem : (x c k : ℕ) → count_below base period x ≡ c → x ≤ k → k < base + c * period → names base period k ≡ false
    unfolding count_below
    none_by_lem x zero k e l h = early (omega arith)
    none_by_lem x (suc c) k e l h =
        let u : suc c * period ≤ x - base + (period - 1) = rw e at (div-mul-le_self (x - base + (period - 1)) period) in
        gap (base + c * period) k (named_at c) (omega arith) (omega arith)

    pub first_none : (x : ℕ) → Unnamed (names base period) x (base + count_below base period x * period)
    first_none x k l h = none_by_lem x (count_below base period x) k refl l h

    -- one more at each named second
    goes_late : (d : ℕ) → (suc d + (period - 1)) / period ≡ (d + (period - 1)) / period + bit (eqb (d % period) 0)
    goes_late d =
        let e : suc d + (period - 1) ≡ d + period = omega arith in
        rw (e, add-div_right d pos)
        (⊎_elim
        (λ (z : d % period ≡ 0).
        let i : d + (period - 1) ≡ d / period * period + (period - 1) = omega (arith, div-add-mod' d period) in
        rw (i, digits_div (d / period) {m = period} {r = period - 1} (omega arith), eq-eqb _ 0 z, bit_true))
        (λ (z : 0 < d % period).
        let i : d + (period - 1) ≡ (d / period + 1) * period + (d % period - 1) = omega (arith, div-add-mod' d period) in
        rw
        (i, digits_div (d / period + 1) {m = period} {r = d % period - 1} (omega (arith, mod-lt d pos)), ne_eqb (d % period) 0 (λ n. omega arith), bit_false)
        (omega arith))
        (eq-zero-or-pos (d % period)))

    goes : (x : ℕ) → count_below base period (suc x) ≡ count_below base period x + bit (names base period x)
    unfolding count_below
    goes x =
        ⊎_elim
        (λ (h : base ≤ x).
        let e : suc x - base ≡ suc (x - base) = omega arith in rw (e, late h) (goes_late (x - base)))
        (λ (h : x < base).
        let e : suc x - base ≡ x - base = omega arith in rw (e, early h, bit_false) (omega arith))
        (le_or_lt base x)

    -- the count without listing
    pub length_is : {a b : ℕ} → a ≤ b → length (named_in (names base period) a b) ≡ count_below base period b - count_below base period a
    length_is h = count_is (names base period) (count_below base period) goes h

    pub below_up : {a b : ℕ} → a ≤ b → count_below base period a ≤ count_below base period b
    below_up h = count_up (names base period) (count_below base period) goes h

    -- the list from the first one on is the list, and each one's successor is a period on
    pub from_first : (a b : ℕ) → named_in (names base period) (base + count_below base period a * period) b ≡ named_in (names base period) a b
    from_first a b = sym (skip (names base period) b (first_from a) (first_none a))

    pub next_one : (x b : ℕ) → names base period x ≡ true → x < b → named_in (names base period) x b ≡ x ∷ named_in (names base period) (x + period) b
    next_one x b t h =
        hit (names base period) h t
        ∙ ap (λ (l : List ℕ). x ∷ l) (skip (names base period) b (omega arith) (λ k l g. gap x k t l g))
