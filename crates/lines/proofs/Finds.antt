-- The first line feed from a place on, as `position` tells of it.
use mathlib.Core.Path.{◌≡◌, refl}
use mathlib.Core.List.{List}
use Prim.Native.Nat.{ℕ, ◌+◌, ◌-◌, ◌<◌, ◌≤◌}
use native.Mathlib.Numerals.{add-one}
use native.Mathlib.Omega.{arith}
use lib.ListN.{length, take, drop, length-drop}
use borrow.Author.Tests.{eq-eqb, ne_eqb}
use Rattle.std.proofs.Common.{Option, None, Some}
use Rattle.std.specs.Option.{MatchOption, unwrap_or}
use Rattle.std.specs.List.{AllWithin, HoldsAt}
use Rattle.std.proofs.lemmas.Iterator.{index_from_first}
use Rattle.std.proofs.lemmas.List.{take_rest}
use Rattle.lines.specs.Split.{before}

abbrev pub feed : ℕ → Type 0
feed b = b ≡ 10

abbrev pub other : ℕ → Type 0
other b = b ≡ 10 → ⊥

abbrev pub First : List ℕ → Option ℕ → Type 0
First s r = MatchOption r (AllWithin other s 0 (length s)) (λ i. (i < length s) × HoldsAt feed s i × AllWithin other s 0 i)

within : (s : List ℕ) (r : Option ℕ) → First s r → unwrap_or r (length s) ≤ length s
within s None h = omega arith
within s (Some i) h = omega (arith, h.0)

counted : (s : List ℕ) (r : Option ℕ) → First s r → before s ≡ unwrap_or r (length s)
unfolding before
counted s r h = index_from_first before feed other refl (λ b t e. rw (eq-eqb b 10 e)) (λ b t e. rw (ne_eqb b 10 e, add-one)) s r h

pub found : (s t : List ℕ) (i n : ℕ) (r : Option ℕ) → i ≤ length s → t ≡ take (length s - i) (drop i s) → n ≡ unwrap_or r (length t) → First t r → (i + n ≡ i + before (drop i s)) × (i ≤ i + n) × (i + n ≤ length s)
found s t i n r l e m h =
    let d : t ≡ drop i s = rw e (take_rest s i) in
    let f : First (drop i s) r = rw d at h in
    let k : n ≡ unwrap_or r (length (drop i s)) = rw d at m in
    let b = counted (drop i s) r f in
    let w = within (drop i s) r f in
    (omega arith, omega arith, omega (arith, length-drop i s))
