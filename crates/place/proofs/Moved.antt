-- The fields of a T-field are judged by its own octets alone, wherever they stand.
use mathlib.Core.Path.{◌≡◌, refl, ap₂}
use mathlib.Core.Bool.{Bool, true, false, cond, ◌&&◌}
use mathlib.Core.List.{List, [], ◌++◌}
use Prim.Native.Nat.{ℕ, zero, suc, ◌+◌, ◌<◌, ◌≤◌}
use native.Mathlib.Omega.{arith}
use borrow.Author.Tests.{le-leb, ltb-true}
use lib.Dec.{ltb}
use lib.ListN.{length}
use Rattle.octets.specs.Places.{octet_value, octet_good, bcd_value, bcd_good}
use Rattle.octets.specs.Counts.{bcd_at}
use Rattle.octets.proofs.Moved.{Same, part_same, first_same, count_moved}
use Rattle.field.specs.Fields.{Field}
use Rattle.cuc.proofs.Layouts as U
use Rattle.cds.proofs.Laws as D
use Rattle.ccs.proofs.Rungs as C
use Rattle.pfield.specs.declared.Layout.{Layout}
use Rattle.pfield.specs.declared.Layout.TheVariants.{Cuc, Cds, Ccs}
use Rattle.codes.specs.Reading.{width_of}
use Rattle.place.specs.Binary.{date_in, clock_in, segments_in, fields_by, fields_at}
use Rattle.place.proofs.Whole.{cuc_wide, cds_wide, ccs_few}

module _ {s u : List ℕ} {at to w : ℕ} (m : Same s u at to w) where
  first : (k : ℕ) → k ≤ w → bcd_at s at k ≡ bcd_at u to k
  first k h = count_moved (first_same m k h) 100 bcd_value bcd_good 9

  later : (a k : ℕ) → a + k ≤ w → bcd_at s (at + a) k ≡ bcd_at u (to + a) k
  later a k h = count_moved (part_same m a k h) 100 bcd_value bcd_good 9

  date_moved : (o : Bool) → 4 ≤ w → date_in o s at ≡ date_in o u to
  date_moved true h = rw (first 2 (omega arith), later 2 2 (omega arith))
  date_moved false h = rw (first 2 (omega arith), later 2 1 (omega arith), later 3 1 (omega arith))

  clock_moved : 7 ≤ w → clock_in s at ≡ clock_in u to
  clock_moved h = rw (later 4 1 (omega arith), later 5 1 (omega arith), later 6 1 (omega arith))

  segments_moved : (i n : ℕ) → i + n ≤ w → segments_in s at i n ≡ segments_in u to i n
  segments_moved i zero h = refl
  segments_moved i (suc n) h = rw (later i 1 (omega arith), segments_moved (suc i) n (omega arith))

by_moved : (s u : List ℕ) (at to : ℕ) (l : Layout) → 0 < width_of l → Same s u at to (width_of l) → fields_by s at l ≡ fields_by u to l
by_moved s u at to (Cuc l) h m =
    let w = U.width_some l (cuc_wide l h) in
    rw (count_moved (first_same m l.coarse (omega arith)) 256 octet_value octet_good 8, count_moved (part_same m l.coarse l.fine (omega arith)) 256 octet_value octet_good 8)
by_moved s u at to (Cds l) h m =
    let w = D.width_some l (cds_wide l h) in
    let after = part_same m l.day (4 + l.part) (omega arith) in
    rw (
      count_moved (first_same m l.day (omega arith)) 256 octet_value octet_good 8,
      count_moved (first_same after 4 (omega arith)) 256 octet_value octet_good 8,
      count_moved (part_same after 4 l.part (omega arith)) 256 octet_value octet_good 8,
    )
by_moved s u at to (Ccs l) h m =
    let w = C.width_is l (ccs_few l h) in
    ap₂ (λ (a b : List Field). a ++ b) (date_moved m l.ordinal (omega arith)) (ap₂ (λ (a b : List Field). a ++ b) (clock_moved m (omega arith)) (segments_moved m 7 l.segments (omega arith)))

pub fields_moved : (s u : List ℕ) (at to : ℕ) (l : Layout) → Same s u at to (width_of l) → fields_at s at l ≡ fields_at u to l
unfolding fields_at
fields_moved s u at to l m =
    rw (le-leb (at + width_of l) (length s) m.here, le-leb (to + width_of l) (length u) m.there) (go (ltb 0 (width_of l)) refl)
  where
    go : (b : Bool) → ltb 0 (width_of l) ≡ b → cond (b && true) (fields_by s at l) [] ≡ cond (b && true) (fields_by u to l) []
    go true e = by_moved s u at to l (ltb-true 0 (width_of l) e) m
    go false e = refl
