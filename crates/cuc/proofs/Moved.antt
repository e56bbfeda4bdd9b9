-- A T-field is read from its own octets alone, wherever they stand.
use mathlib.Core.Path.{◌≡◌, refl}
use mathlib.Core.Bool.{Bool, true, false}
use mathlib.Core.List.{List}
use Prim.Native.Nat.{ℕ, ◌+◌}
use native.Mathlib.Omega.{arith}
use borrow.Author.Tests.{le-leb}
use lib.ListN.{length}
use Rattle.octets.specs.Places.{octet_value, octet_good}
use Rattle.octets.proofs.Moved.{Same, first_same, part_same, count_moved}
use Rattle.cuc.specs.Cuc.{is_width, width, field}
use Rattle.cuc.specs.declared.Layout.{Layout}
use Rattle.cuc.proofs.Layouts.{width_some}

pub field_moved : (s u : List ℕ) (at to : ℕ) (l : Layout) → Same s u at to (width l) → field s at l ≡ field u to l
unfolding field
field_moved s u at to l m = go (is_width l) refl
  where
    go : (b : Bool) → is_width l ≡ b → field s at l ≡ field u to l
    go true e =
        let w = width_some l e in
        let c = first_same m l.coarse (omega arith) in
        let f = part_same m l.coarse l.fine (omega arith) in
        rw (le-leb (at + width l) (length s) m.here, le-leb (to + width l) (length u) m.there, count_moved c 256 octet_value octet_good 8, count_moved f 256 octet_value octet_good 8)
    go false e = rw e
