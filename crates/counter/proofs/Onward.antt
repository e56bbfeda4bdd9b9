-- What an iterator over turns has left, by its three numbers.
use Rattle.std.proofs.Common.{◌≡◌, refl, sym, ap, ◌∙◌, ℕ, ◌+◌, ◌-◌, ◌*◌, ◌/◌, ◌%◌, ◌^◌, ◌<◌, ◌≤◌, [], ◌∷◌, map, true, subst, arith}
use Rattle.std.specs.Int.{div_ceil}
use lib.Arith.{digits_div}
use native.Mathlib.Nat.{div-add-mod', mod-lt, eq-zero-or-pos}
use mathlib.Core.Logic.{⊎_elim}
use Rattle.base.specs.Parts.{lowered_by}
use Rattle.window.specs.Window.{named_in}
use Rattle.window.proofs.Moments.{empty, alike}
use Rattle.counter.specs.Counter.{names, count_below}
use Rattle.counter.specs.Inner.{left}
use Rattle.counter.proofs.Laws.{shifted, named_at, next_one, from_first}

pub over : (at period to : ℕ) → to ≤ at → left at period to ≡ []
over at period to h = ap (map (lowered_by (2 ^ 41))) (empty (names at period) h)

pub turn : (at period to : ℕ) → 0 < period → at < to → left at period to ≡ lowered_by (2 ^ 41) at ∷ left (at + period) period to
turn at period to pos h =
    let e : at + 0 * period ≡ at = omega arith in
    let n : names at period at ≡ true = subst (λ x. names at period x ≡ true) e (named_at at period 0) in
    let same = alike (names at period) (names (at + period) period) (at + period) to (λ k l. shifted at period 1 (at + period) k (omega arith) l) in
    ap (map (lowered_by (2 ^ 41))) (next_one at period pos at to n h ∙ ap (λ l. at ∷ l) same)

rounded_up : (x p : ℕ) → 0 < p → div_ceil x p ≡ (x + (p - 1)) / p
rounded_up x p pos =
    ⊎_elim
    (λ (z : x % p ≡ 0).
    let i : x + (p - 1) ≡ x / p * p + (p - 1) = omega (arith, div-add-mod' x p) in
    rw (i, digits_div (x / p) {m = p} {r = p - 1} (omega arith)) (omega arith))
    (λ (z : 0 < x % p).
    let i : x + (p - 1) ≡ (x / p + 1) * p + (x % p - 1) = omega (arith, div-add-mod' x p) in
    rw (i, digits_div (x / p + 1) {m = p} {r = x % p - 1} (omega (arith, mod-lt x pos))) (omega arith))
    (eq-zero-or-pos (x % p))

-- from the first one on, all of the window
pub all_left : (base period from to n : ℕ) → 0 < period → n ≡ div_ceil (from - base) period → map (lowered_by (2 ^ 41)) (named_in (names base period) from to) ≡ left (base + n * period) period to
unfolding count_below
all_left base period from to n pos e =
    rw (e, rounded_up (from - base) period pos)
    (ap (map (lowered_by (2 ^ 41))) (sym (from_first base period pos from to) ∙ alike _ _ _ to (λ k l. shifted base period (count_below base period from) _ k refl l)))
