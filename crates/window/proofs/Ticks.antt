-- A window of seconds and ticks, for moments that share one tick count: it is a window of seconds.
use mathlib.Core.Bool.{Bool, true, false, cond}
use mathlib.Core.Path.{◌≡◌, refl, sym}
use Prim.Native.Nat.{ℕ, ◌+◌, ◌≤◌}
use native.Mathlib.Omega.{arith}
use lib.Dec.{ltb}
use borrow.Author.Tests.{lt-ltb, le-ltb, ltb-true, ltb-false}
use Rattle.base.proofs.Bools.{never_both}
use Rattle.window.specs.Seconds.{first_second}

-- whether second x at tick k is before second s and tick u: by the seconds, then by the ticks
abbrev before : ℕ → ℕ → ℕ → ℕ → Bool
before x k s u = cond (ltb x s) true (cond (ltb s x) false (ltb k u))

-- it is exactly when x is before the first second
pub before_first : (x k s u : ℕ) → before x k s u ≡ ltb x (first_second s u k)
unfolding first_second
before_first x k s u = go (ltb x s) (ltb s x) (ltb k u) refl refl
  where
    go : (a b t : Bool) → ltb x s ≡ a → ltb s x ≡ b → cond a true (cond b false t) ≡ ltb x (cond t (s + 1) s)
    go true b true e f = sym (lt-ltb x (s + 1) (omega (arith, ltb-true x s e)))
    go true b false e f = sym e
    go false true true e f = sym (le-ltb x (s + 1) (omega (arith, ltb-true s x f)))
    go false true false e f = sym e
    go false false true e f = sym (lt-ltb x (s + 1) (omega (arith, ltb-false s x f)))
    go false false false e f = sym e

near : (d : Bool) (s : ℕ) → (s ≤ cond d (s + 1) s) × (cond d (s + 1) s ≤ s + 1)
near true s = (omega arith, omega arith)
near false s = (omega arith, omega arith)

-- the first second is the moment's own or the next
pub first_near : (s u k : ℕ) → (s ≤ first_second s u k) × (first_second s u k ≤ s + 1)
unfolding first_second
first_near s u k = near (ltb k u) s

-- a later moment has no earlier first second
pub first_up : (s u t v k : ℕ) → before t v s u ≡ false → first_second s u k ≤ first_second t v k
unfolding first_second
first_up s u t v k h = go (ltb t s) (ltb s t) (ltb v u) (ltb k u) (ltb k v) refl refl refl refl refl h
  where
    go : (a b c d e : Bool) → ltb t s ≡ a → ltb s t ≡ b → ltb v u ≡ c → ltb k u ≡ d → ltb k v ≡ e → cond a true (cond b false c) ≡ false → cond d (s + 1) s ≤ cond e (t + 1) t
    go true b c d e A B C D E h = never_both refl h
    go false true c d e A B C D E h = omega (arith, ltb-true s t B, near d s, near e t)
    go false false true d e A B C D E h = never_both refl h
    go false false false true true A B C D E h = omega (arith, ltb-false t s A)
    go false false false true false A B C D E h = omega (arith, ltb-false v u C, ltb-true k u D, ltb-false k v E)
    go false false false false true A B C D E h = omega (arith, ltb-false t s A)
    go false false false false false A B C D E h = omega (arith, ltb-false t s A)
