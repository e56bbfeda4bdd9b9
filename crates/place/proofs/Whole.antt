-- A T-field that is all there, and the fields of one: where they begin, and that those of CUC have no rule to break.
use mathlib.Core.Path.{◌≡◌, refl, sym, ap, ◌∙◌}
use mathlib.Core.Bool.{Bool, true, false, cond, ◌&&◌}
use mathlib.Core.List.{List, [], ◌++◌}
use Prim.Native.Nat.{ℕ, ◌+◌, ◌<◌, ◌≤◌}
use native.Mathlib.Omega.{arith}
use borrow.Author.Tests.{leb-true, lt-ltb, le-ltb, le-leb, ltb-true}
use lib.Dec.{leb, ltb}
use lib.ListN.{length, get_or}
use Rattle.base.proofs.Bools.{and_yes, and_false, and_no, cond_yes, cond_no}
use Rattle.field.specs.Fields.{first_bad, offset}
use Rattle.cuc.specs.Cuc as U
use Rattle.cuc.specs.declared.Layout as UL
use Rattle.cuc.proofs.Layouts as UP
use Rattle.cds.specs.Cds as D
use Rattle.cds.specs.declared.Layout as DL
use Rattle.cds.proofs.Laws as DP
use Rattle.ccs.specs.Ccs as C
use Rattle.ccs.specs.declared.Layout as CL
use Rattle.pfield.specs.declared.Layout.{Layout}
use Rattle.pfield.specs.declared.Layout.TheVariants.{Cuc, Cds, Ccs}
use Rattle.codes.specs.Reading.{width_of}
use Rattle.place.specs.Binary.{cuc_fields, date_in, clock_in, segments_in, fields_by, fields_at}
use Rattle.place.proofs.Numbers.{octets_kept}
use Rattle.place.proofs.Starts.{Low, low_append, low_segments, place_low}
use Rattle.std.specs.Prelude.{Option, Some, None}

-- ---- a layout that there is
pub cuc_wide : (l : UL.Layout) → 0 < U.width l → U.is_width l ≡ true
cuc_wide l h = go (U.is_width l) refl
  where
    go : (t : Bool) → U.is_width l ≡ t → t ≡ true
    go true e = refl
    go false e = absurd (omega (arith, UP.width_none l e))

pub cds_wide : (l : DL.Layout) → 0 < D.width l → D.is_width l ≡ true
cds_wide l h = go (D.is_width l) refl
  where
    go : (t : Bool) → D.is_width l ≡ t → t ≡ true
    go true e = refl
    go false e = absurd (omega (arith, DP.width_none l e))

pub ccs_few : (l : CL.Layout) → 0 < C.width l → l.segments ≤ 6
unfolding C.width
ccs_few l h = go (leb l.segments 6) refl h
  where
    go : (t : Bool) → leb l.segments 6 ≡ t → 0 < cond t (7 + l.segments) 0 → l.segments ≤ 6
    go true e k = leb-true l.segments 6 e
    go false e k = absurd (omega arith)

-- ---- its fields
module _ (s : List ℕ) (at : ℕ) (l : Layout) where
  pub no_layout : width_of l < 1 → None ≡ first_bad (fields_at s at l)
  unfolding fields_at
  no_layout h = ap first_bad (sym (cond_no _ _ (and_no _ (le-ltb 0 (width_of l) (omega arith)))))

  pub cut_short : leb (at + width_of l) (length s) ≡ false → None ≡ first_bad (fields_at s at l)
  unfolding fields_at
  cut_short e = ap first_bad (sym (cond_no _ _ (and_false (ltb 0 (width_of l)) _ e)))

  pub all_there : 0 < width_of l → at + width_of l ≤ length s → fields_by s at l ≡ fields_at s at l
  unfolding fields_at
  all_there h k = sym (cond_yes _ _ (and_yes _ (lt-ltb 0 (width_of l) h) ∙ le-leb (at + width_of l) (length s) k))

-- any octets are a good count
pub cuc_good : (s : List ℕ) (at : ℕ) (l : UL.Layout) → ((i : ℕ) → get_or s i 0 < 256) → 0 < U.width l → at + U.width l ≤ length s → None ≡ first_bad (cuc_fields s at l)
cuc_good s at l b h k =
    let e = cuc_wide l h in
    let (_, c, f) = UP.widths l e in
    let w = UP.width_some l e in
    rw (octets_kept s at l.coarse b (omega arith) (omega arith), octets_kept s (at + l.coarse) l.fine b (omega arith) (omega arith))

-- ---- where they begin
low_date : (o : Bool) (s : List ℕ) (at : ℕ) → Low 12 (date_in o s at)
low_date true s at = (omega arith, (omega arith, tt))
low_date false s at = (omega arith, (omega arith, (omega arith, tt)))

low_by : (s : List ℕ) (at : ℕ) (l : Layout) → 0 < width_of l → Low 12 (fields_by s at l)
low_by s at (Cuc l) h = let (_, c, _) = UP.widths l (cuc_wide l h) in (omega arith, (omega arith, tt))
low_by s at (Cds l) h = let (d, _, _) = DP.widths l (cds_wide l h) in (omega arith, (omega arith, (omega arith, tt)))
low_by s at (Ccs l) h =
    low_append 12 (date_in l.ordinal s at) (clock_in s at ++ segments_in s at 7 l.segments) (low_date l.ordinal s at)
    (low_append 12 (clock_in s at) (segments_in s at 7 l.segments) (omega arith, (omega arith, (omega arith, tt))) (low_segments s at 7 l.segments 12 (omega (arith, ccs_few l h))))

pub starts_low : (s : List ℕ) (at : ℕ) (l : Layout) (n : ℕ) → first_bad (fields_at s at l) ≡ Some n → n ≤ 12
unfolding fields_at
starts_low s at l n e = place_low 12 (fields_at s at l) n (go (ltb 0 (width_of l)) refl (leb (at + width_of l) (length s))) e
  where
    go : (a : Bool) → ltb 0 (width_of l) ≡ a → (b : Bool) → Low 12 (cond (a && b) (fields_by s at l) [])
    go true h true = low_by s at l (ltb-true 0 (width_of l) h)
    go true h false = tt
    go false h b = tt

pub offset_low : (s : List ℕ) (at : ℕ) (l : Layout) → offset (first_bad (fields_at s at l)) ≤ 12
offset_low s at l = go (first_bad (fields_at s at l)) refl
  where
    go : (p : Option ℕ) → first_bad (fields_at s at l) ≡ p → offset p ≤ 12
    go (Some n) e = starts_low s at l n e
    go None e = omega arith
