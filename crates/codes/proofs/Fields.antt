-- What holds of every code's T-field, by its layout and by any table that reckons: one law for each fact, whichever the code is.
use mathlib.Core.Path.{◌≡◌, refl, ap}
use mathlib.Core.Bool.{Bool, true, false}
use mathlib.Core.List.{List, ◌++◌}
use Prim.Native.Nat.{ℕ, ◌+◌, ◌<◌, ◌≤◌}
use lib.ListN.{length, take, drop}
use Rattle.base.specs.Outcome.{done}
use Rattle.scale.specs.Time.{Time, is_record}
use Rattle.scale.specs.Latest.{Latest}
use native.Mathlib.Omega.{arith}
use borrow.Author.Tests.{leb-true}
use lib.Dec.{leb}
use Rattle.cuc.specs.declared.Layout.{Layout as CucLayout}
use Rattle.cds.specs.declared.Layout.{Layout as CdsLayout}
use Rattle.ccs.specs.declared.Layout.{Layout as CcsLayout}
use Rattle.cuc.specs.Cuc.{is_width as is_cuc, width as cucWidth}
use Rattle.cds.specs.Cds.{is_width as isCds, width as cdsWidth, field as cdsField, bytes_of as cdsBytes}
use Rattle.ccs.specs.Ccs.{width as ccsWidth, field as ccsField, bytes_of as ccsBytes}
use Rattle.octets.proofs.Moved.{Same}
use Rattle.cuc.proofs.Layouts as UL
use Rattle.cds.proofs.Laws as DL
use Rattle.ccs.proofs.Rungs as CR
use Rattle.cuc.proofs.Promises as U
use Rattle.cds.proofs.Promises as D
use Rattle.ccs.proofs.Promises as C
use Rattle.cuc.proofs.Moved as UM
use Rattle.cds.proofs.Moved as DM
use Rattle.ccs.proofs.Moved as CM
use Rattle.leap.specs.Table.{Table}
use Rattle.utc.specs.Reckoning.{reckons, read_by}
use Rattle.utc.proofs.Lift.{read_of, written_of, lift_written, lift_read}
use Rattle.codes.specs.Reading.{field_of, width_of, ReadsIn}
use Rattle.codes.specs.Writing.{bytes_of}
use Rattle.pfield.specs.declared.Layout.{Layout}
use Rattle.pfield.specs.declared.Layout.TheVariants.{Cuc, Cds, Ccs}
use Rattle.pfield.proofs.Layouts.{is_layout_of}

-- a T-field is short
cuc_low : (l : CucLayout) (b : Bool) → is_cuc l ≡ b → cucWidth l ≤ 13
cuc_low l true e = omega (arith, UL.width_some l e, UL.widths l e)
cuc_low l false e = omega (arith, UL.width_none l e)

cds_low : (l : CdsLayout) (b : Bool) → isCds l ≡ b → cdsWidth l ≤ 13
cds_low l true e = omega (arith, DL.width_some l e, DL.widths l e)
cds_low l false e = omega (arith, DL.width_none l e)

ccs_low : (l : CcsLayout) (b : Bool) → leb l.segments 6 ≡ b → ccsWidth l ≤ 13
unfolding ccsWidth
ccs_low l true e = rw e (omega (arith, leb-true l.segments 6 e))
ccs_low l false e = rw e (omega arith)

pub width_low : (l : Layout) → width_of l ≤ 13
width_low (Cuc l) = cuc_low l _ refl
width_low (Cds l) = cds_low l _ refl
width_low (Ccs l) = ccs_low l _ refl

-- and that of a layout that there is has an octet
pub width_some : (l : Layout) → is_layout_of l ≡ true → 0 < width_of l
width_some (Cuc l) e = omega (arith, UL.width_range l e)
width_some (Cds l) e = omega (arith, DL.width_is l e)
width_some (Ccs l) e = omega (arith, CR.width_is l (leb-true l.segments 6 e))

-- the octets of a T-field that was read, and of one that was written
pub cds_octets : (t : Table) (s : List ℕ) (at : ℕ) (l : CdsLayout) (x : Time) → read_by t (cdsField s at l) ≡ done x → at + cdsWidth l ≤ length s
cds_octets t s at l x h = let r = read_of t (cdsField s at l) x h in D.read_width s at l r.moment r.named

pub ccs_octets : (t : Table) (s : List ℕ) (at : ℕ) (l : CcsLayout) (x : Time) → read_by t (ccsField s at l) ≡ done x → at + ccsWidth l ≤ length s
ccs_octets t s at l x h = let r = read_of t (ccsField s at l) x h in C.read_width s at l r.moment r.named

pub field_width : (t : Table) (s : List ℕ) (at : ℕ) (l : Layout) (x : Time) → field_of t s at l ≡ done x → at + width_of l ≤ length s
field_width t s at (Cuc l) x h = U.read_width s at l x h
field_width t s at (Cds l) x h = cds_octets t s at l x h
field_width t s at (Ccs l) x h = ccs_octets t s at l x h

pub bytes_width : (t : Table) (l : Layout) (r : Time) (code : List ℕ) → bytes_of t l r ≡ done code → length code ≡ width_of l
bytes_width t (Cuc l) r code h = U.write_width l r code h
bytes_width t (Cds l) r code h = let w = written_of t (cdsBytes l) r code h in D.write_width l w.moment code w.writes
bytes_width t (Ccs l) r code h = let w = written_of t (ccsBytes l) r code h in C.write_width l w.moment code w.writes

-- a T-field is read from its own octets alone, wherever they stand
pub field_moved : (t : Table) (s u : List ℕ) (at to : ℕ) (l : Layout) → Same s u at to (width_of l) → field_of t s at l ≡ field_of t u to l
field_moved t s u at to (Cuc l) m = UM.field_moved s u at to l m
field_moved t s u at to (Cds l) m = ap (read_by t) (DM.field_moved s u at to l m)
field_moved t s u at to (Ccs l) m = ap (read_by t) (CM.field_moved s u at to l m)

module _ (t : Table) (g : reckons t ≡ true) where
  -- what was read is a record, and writes the same bytes
  pub field_back : (s : List ℕ) (at : ℕ) (l : Layout) (x : Time) → field_of t s at l ≡ done x → (is_record x ≡ true) × (bytes_of t l x ≡ done (take (width_of l) (drop at s)))
  field_back s at (Cuc l) x h = (U.read_valid s at l x h, U.read_written s at l x h)
  field_back s at (Cds l) x h = lift_read t g (λ s at. cdsField s at l) (cdsBytes l) (λ s at m. D.read_valid s at l m) s at x _ h (D.read_written s at l)
  field_back s at (Ccs l) x h = lift_read t g (λ s at. ccsField s at l) (ccsBytes l) (λ s at m. C.read_valid s at l m) s at x _ h (C.read_written s at l)

  -- the written T-field reads, with bytes before and after it, to the latest time that is not after the source
  pub bytes_read : (l : Layout) (r : Time) (code : List ℕ) → is_record r ≡ true → bytes_of t l r ≡ done code → (x : Time) × ((Latest (ReadsIn t l) r x) × ((s u : List ℕ) (at : ℕ) → at ≤ length s → drop at s ≡ code ++ u → field_of t s at l ≡ done x))
  bytes_read (Cuc l) r code v h = U.written_reads l r code h
  bytes_read (Cds l) r code v h = lift_written t g (λ s at. cdsField s at l) (cdsBytes l) (λ s at m. D.read_valid s at l m) (λ m c e. let (n, f, p) = D.written_reads l m c e in (n, (f, p))) r code v h
  bytes_read (Ccs l) r code v h = lift_written t g (λ s at. ccsField s at l) (ccsBytes l) (λ s at m. C.read_valid s at l m) (λ m c e. let (n, f, p) = C.written_reads l m c e in (n, (f, p))) r code v h
