-- A T-field is read from its own octets alone, wherever they stand.
use mathlib.Core.Path.{◌≡◌, refl}
use mathlib.Core.Bool.{Bool, true, false}
use mathlib.Core.List.{List}
use Prim.Native.Nat.{ℕ, ◌+◌, ◌≤◌}
use native.Mathlib.Omega.{arith}
use borrow.Author.Tests.{le-leb, leb-true}
use lib.ListN.{length}
use Rattle.octets.specs.Places.{bcd_value, bcd_good}
use Rattle.octets.proofs.Moved.{Same, first_same, part_same, count_moved}
use Rattle.ccs.specs.Ccs.{is_layout, width, pairs, day_at, clock_at, field}
use Rattle.ccs.specs.declared.Layout.{Layout}
use Rattle.ccs.proofs.Rungs.{width_is}

module _ {s u : List ℕ} {at to w : ℕ} (m : Same s u at to w) where
  first : (k : ℕ) → k ≤ w → pairs s at k ≡ pairs u to k
  first k h = rw (count_moved (first_same m k h) 100 bcd_value bcd_good 9)

  later : (a k : ℕ) → a + k ≤ w → pairs s (at + a) k ≡ pairs u (to + a) k
  later a k h = rw (count_moved (part_same m a k h) 100 bcd_value bcd_good 9)

  day_moved : (o : Bool) → 4 ≤ w → day_at o s at ≡ day_at o u to
  unfolding day_at
  day_moved true h = rw (first 2 (omega arith), later 2 2 (omega arith))
  day_moved false h = rw (first 2 (omega arith), later 2 1 (omega arith), later 3 1 (omega arith))

  clock_moved : 3 ≤ w → clock_at s at ≡ clock_at u to
  unfolding clock_at
  clock_moved h = rw (first 1 (omega arith), later 1 1 (omega arith), later 2 1 (omega arith))

pub field_moved : (s u : List ℕ) (at to : ℕ) (l : Layout) → Same s u at to (width l) → field s at l ≡ field u to l
unfolding field
field_moved s u at to l m = go (is_layout l) refl
  where
    go : (b : Bool) → is_layout l ≡ b → field s at l ≡ field u to l
    go true e =
        let w = width_is l (leb-true l.segments 6 e) in
        rw (
          le-leb (at + width l) (length s) m.here,
          le-leb (to + width l) (length u) m.there,
          day_moved m l.ordinal (omega arith),
          clock_moved (part_same m 4 3 (omega arith)) (omega arith),
          later m 7 l.segments (omega arith),
        )
    go false e = rw e
