-- What CDS promises of moments across calls: valid moments, widths, both round trips, the floor of a source, which seconds have a T-field, and exactly when a write is refused.
use mathlib.Core.Path.{◌≡◌, sym, ap, ◌∙◌}
use mathlib.Core.Bool.{true, false}
use mathlib.Core.List.{List, ◌++◌}
use Prim.Native.Nat.{ℕ, ◌+◌, ◌≤◌}
use native.Mathlib.Omega.{arith}
use lib.Dec.{lit<}
use lib.IntN.{ℤ}
use lib.ListN.{length, take, drop}
use Rattle.base.specs.Outcome.{done, refused}
use Rattle.base.proofs.Ladders.{done_is, need_yes, need_no, needs_yes, need_done, needs_done}
use Rattle.moment.specs.Moment.{moment, is_moment, Floor}
use Rattle.moment.specs.declared.Moment.{Moment}
use Rattle.moment.proofs.Laws.{parts_moment}
use Rattle.cds.specs.Cds.{is_epoch_day, is_width, is_layout, width, field, Reads, held, coded, bytes_of}
use Rattle.cds.specs.declared.Layout.{Layout}
use Rattle.cds.proofs.Laws.{width_is}
use Rattle.cds.proofs.Ticks.{fraction_lt}
use Rattle.cds.proofs.Stores.{length_laid}
use Rattle.cds.proofs.Trips.{found, floored, coded_reads, coded_floor, named_coded}

-- ---- when a write is refused, and when it is not
module _ (l : Layout) (m : Moment) where
  pub layout_refused : is_width l ≡ false → bytes_of l m ≡ refused 3
  unfolding bytes_of
  layout_refused e = need_no 3 _ e

  pub epoch_refused : is_width l ≡ true → is_epoch_day l.epoch ≡ false → bytes_of l m ≡ refused 7
  unfolding bytes_of
  epoch_refused w e = need_yes 3 _ w ∙ need_no 7 _ e

  module _ (e : is_layout l ≡ true) where
    pub moment_refused : is_moment m ≡ false → bytes_of l m ≡ refused 7
    unfolding bytes_of is_layout
    moment_refused v = needs_yes (is_width l) _ 3 7 _ e ∙ need_no 7 _ v

    pub written_out : is_moment m ≡ true → held l m.day ≡ false → bytes_of l m ≡ refused 7
    unfolding bytes_of is_layout
    written_out v h = needs_yes (is_width l) _ 3 7 _ e ∙ need_yes 7 _ v ∙ need_no 7 _ h

    pub written_held : is_moment m ≡ true → held l m.day ≡ true → bytes_of l m ≡ done (coded l m)
    unfolding bytes_of is_layout
    written_held v h = needs_yes (is_width l) _ 3 7 _ e ∙ need_yes 7 _ v ∙ need_yes 7 _ h

  -- and what a write that is not refused tells
  pub told : (code : List ℕ) → bytes_of l m ≡ done code → (is_layout l ≡ true) × (is_moment m ≡ true) × (held l m.day ≡ true) × (coded l m ≡ code)
  unfolding bytes_of is_layout
  told code e =
      let (a, f) = needs_done (is_width l) (is_epoch_day l.epoch) 3 7 _ code e in
      let (b, g) = need_done (is_moment m) 7 _ code f in
      let (c, h) = need_done (held l m.day) 7 (done (coded l m)) code g in
      (a, b, c, done_is _ code h)

-- ---- reading
module _ (s : List ℕ) (at : ℕ) (l : Layout) (m : Moment) (e : field s at l ≡ done m) where
  -- what is read is a valid moment
  pub read_valid : is_moment m ≡ true
  read_valid =
      let f = found s at l m e in
      let x = ap (λ (c : Moment). c.second) f.named.is in
      let t = ap (λ (c : Moment). c.ticks) f.named.is in
      parts_moment m (omega (arith, x, f.named.milli)) (omega (arith, t, fraction_lt l.part f.m f.p f.named.part))

  pub read_width : at + width l ≤ length s
  read_width = let f = found s at l m e in rw (width_is l f.named.layout) f.fits

  -- what is read is written back in the same bytes
  pub read_written : bytes_of l m ≡ done (take (width l) (drop at s))
  read_written =
      let f = found s at l m e in
      let (h, c) = named_coded l m f.d f.m f.p f.named in
      rw (width_is l f.named.layout, f.text) (written_held l m f.named.layout read_valid h ∙ ap done c)

-- ---- writing
module _ (l : Layout) (m : Moment) (code : List ℕ) (e : bytes_of l m ≡ done code) where
  pub write_width : length code ≡ width l
  write_width = let (a, b, c, d) = told l m code e in ap length (sym d) ∙ length_laid l _ _ _ ∙ sym (width_is l a)

  -- what is written reads, wherever it stands, to the moment of the source's second with the most ticks that are not above its own, among all that T-fields read to
  pub written_reads : (n : Moment) × (Floor (Reads l) m n) × ((s t : List ℕ) (at : ℕ) → at ≤ length s → drop at s ≡ code ++ t → field s at l ≡ done n)
  written_reads =
      let (a, b, c, d) = told l m code e in
      (floored l m, coded_floor l m a b c, λ s t at h f. coded_reads l m a b c s t at h (rw d f))

-- ---- the moments that T-fields read to
module _ (l : Layout) (m : Moment) (r : Reads l m) where
  pub reads_layout : is_layout l ≡ true
  reads_layout = (found r.0 0 l m r.1).named.layout

  -- stand on days that the layout holds
  pub reads_held : held l m.day ≡ true
  reads_held = let f = found r.0 0 l m r.1 in (named_coded l m f.d f.m f.p f.named).0

-- and each second of a held day has a T-field
pub held_reads : (l : Layout) → is_layout l ≡ true → (d : ℤ) → held l d ≡ true → (x : ℕ) → x ≤ 86400 → Reads l (moment d x 0)
held_reads l e d h x k =
    let m = moment d x 0 in
    let f = coded_floor l m e (parts_moment m k (lit< tt)) h in
    let z : (floored l m).ticks ≡ 0 = omega (arith, f.below) in
    rw z at f.had
