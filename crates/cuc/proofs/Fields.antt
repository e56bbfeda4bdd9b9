-- The ladders of reading and of writing, rung by rung; and what a field that was read, and a time that was written, tell.
use mathlib.Core.Path.{◌≡◌, sym, ap, ◌∙◌}
use mathlib.Core.Bool.{true, false}
use mathlib.Core.List.{List, ◌++◌, append_assoc}
use Prim.Native.Nat.{ℕ, ◌+◌, ◌*◌, ◌^◌, ◌<◌, ◌≤◌}
use native.Mathlib.Omega.{arith}
use borrow.Author.Tests.{leb-true, le-leb}
use lib.Dec.{leb}
use lib.ListN.{length, take, drop, length-append, length-drop}
use lib.Seq.{take-add, drop-drop, drop_at}
use Rattle.base.specs.Outcome.{done, refused, need, and_then, given}
use Rattle.base.proofs.Once.{said_done}
use Rattle.base.proofs.Ladders.{need_yes, need_no, needs_yes, need_done, needs_done, then_done, given_done, done_is, unsettled}
use Rattle.scale.specs.Time.{Time, is_record}
use Rattle.octets.specs.Places.{octets, octet_of, octet_value, octet_good}
use Rattle.octets.specs.Counts.{count_at}
use Rattle.octets.proofs.Places.{octet_rule, length_places}
use Rattle.octets.proofs.Counts.{Read, told, read_lt, read_text, read_back}
use Rattle.cuc.specs.Cuc.{is_epoch, is_width, is_layout, settled, width, unit, time_of, field, holds, in_octets, coded, bytes_of}
use Rattle.base.specs.declared.Refusal.{Refusal}
use Rattle.base.specs.declared.Refusal.TheVariants.{Range}
use Rattle.base.specs.Refusals.{number}
use Rattle.octets.specs.Writes.{roomed, Wrote}
use Rattle.octets.proofs.Writes.{refuses}
use Rattle.cuc.specs.Inner.{Good}
use Rattle.cuc.specs.declared.Layout.{Layout}
use Rattle.scale.specs.Time.{per_second}
use Rattle.scale.proofs.Fractions.{ticks_lt}
use Rattle.cuc.proofs.Widths.{power_le, grain}
use Rattle.cuc.proofs.Layouts.{layout_good, width_is}
use Rattle.base.specs.Said.{said}
use Rattle.std.specs.Prelude.{Ok, Err}

-- ---- a count
module _ (s : List ℕ) (at w n : ℕ) (e : count_at s at w ≡ Ok n) where
  pub count_told : Read 256 octet_value octet_good 8 s at w n w
  count_told = told 256 octet_value octet_good 8 s at w (Ok n) e

  pub count_lt : n < 256 ^ w
  count_lt = read_lt count_told octet_rule

-- ---- reading
module _ (s : List ℕ) (at : ℕ) (l : Layout) where
  -- a layout that there is not is refused before the bytes are looked at
  pub field_unjudged : (n : ℕ) → refused n ≡ settled l (done l) → refused n ≡ field s at l
  unfolding field
  field_unjudged n h = unsettled (is_width l) (is_epoch l.epoch) 3 7 l _ n h

  -- and of one that there is, its rungs
  pub rungs : Good l → field s at l ≡ need (leb (at + (l.coarse + l.fine)) (length s)) 1 (and_then (said (count_at s at l.coarse)) (λ c. given (time_of l c) (said (count_at s (at + l.coarse) l.fine))))
  unfolding field is_layout
  rungs g = needs_yes (is_width l) _ 3 7 _ g.is ∙ rw (width_is l g.is)

  module _ (h : is_layout l ≡ true) where
    pub field_is : (c f : ℕ) → at + (l.coarse + l.fine) ≤ length s → count_at s at l.coarse ≡ Ok c → count_at s (at + l.coarse) l.fine ≡ Ok f → field s at l ≡ done (time_of l c f)
    field_is c f k a b = rungs (layout_good l h) ∙ rw (le-leb _ _ k, a, b)

    -- the octets of two counts, wherever they stand
    pub laid_reads : (c f : ℕ) → c < 256 ^ l.coarse → f < 256 ^ l.fine → (rest : List ℕ) → at ≤ length s → drop at s ≡ in_octets l c f ++ rest → field s at l ≡ done (time_of l c f)
    unfolding in_octets
    laid_reads c f p q rest a e =
        let g = layout_good l h in
        let A = octets l.coarse c in
        let B = octets l.fine f in
        let x : length A ≡ l.coarse = length_places 256 octet_of l.coarse c in
        let y : length B ≡ l.fine = length_places 256 octet_of l.fine f in
        let n : length s ≡ at + (l.coarse + l.fine) + length rest = omega (arith, length-drop at s, ap length e, length-append (A ++ B) rest, length-append A B) in
        let i : drop at s ≡ A ++ (B ++ rest) = e ∙ append_assoc A B rest in
        let j : drop (at + l.coarse) s ≡ B ++ rest = sym (drop-drop l.coarse at s) ∙ ap (drop l.coarse) i ∙ drop_at A (B ++ rest) l.coarse x in
        field_is c f (omega (arith, n))
        (sym (read_back octet_rule 8 s (B ++ rest) at l.coarse c (omega (arith, g.narrow)) p a i))
        (sym (read_back octet_rule 8 s rest (at + l.coarse) l.fine f (omega (arith, g.short)) q (omega (arith, n)) j))

-- a layout's seconds are few, and its parts are less than a second
pub seconds_lt : (s : List ℕ) (at : ℕ) (l : Layout) (n : ℕ) → Good l → count_at s at l.coarse ≡ Ok n → n < 256 ^ 4
seconds_lt s at l n g e = omega (arith, count_lt s at l.coarse n e, power_le l.coarse 4 g.narrow)

pub parts_lt : (s : List ℕ) (at : ℕ) (l : Layout) (n : ℕ) → Good l → count_at s at l.fine ≡ Ok n → n * unit l.fine < per_second
parts_lt s at l n g e = ticks_lt (grain l.fine g.short) n (count_lt s at l.fine n e)

-- what a field that was read tells
pub record Told (s : List ℕ) (at : ℕ) (l : Layout) (m : Time) : Type 0 where
  pub layout : is_layout l ≡ true
  pub good : Good l
  pub fits : at + width l ≤ length s
  pub whole : ℕ
  pub wholes : count_at s at l.coarse ≡ Ok whole
  pub part : ℕ
  pub parts : count_at s (at + l.coarse) l.fine ≡ Ok part
  pub is : time_of l whole part ≡ m

pub field_told : (s : List ℕ) (at : ℕ) (l : Layout) (m : Time) → field s at l ≡ done m → Told s at l m
unfolding field is_layout
field_told s at l m e =
    let (h, f) = needs_done (is_width l) (is_epoch l.epoch) 3 7 _ m e in
    let (k, g) = need_done (leb (at + width l) (length s)) 1 _ m f in
    let (c, (a, i)) = then_done (said (count_at s at l.coarse)) _ m g in
    let (d, (b, j)) = given_done (time_of l c) (said (count_at s (at + l.coarse) l.fine)) m i in
    record {
      layout = h;
      good = layout_good l h;
      fits = leb-true (at + width l) (length s) k;
      whole = c;
      wholes = said_done _ c a;
      part = d;
      parts = said_done _ d b;
      is = j;
    }

module _ {s : List ℕ} {at : ℕ} {l : Layout} {m : Time} (t : Told s at l m) where
  pub whole_lt : t.whole < 256 ^ l.coarse
  whole_lt = count_lt s at l.coarse t.whole t.wholes

  pub part_lt : t.part < 256 ^ l.fine
  part_lt = count_lt s (at + l.coarse) l.fine t.part t.parts

  -- its octets are those of the two counts
  pub told_text : take (width l) (drop at s) ≡ in_octets l t.whole t.part
  unfolding in_octets
  told_text =
      rw (width_is l t.layout, take-add l.coarse l.fine (drop at s), drop-drop l.coarse at s, read_text (count_told s at l.coarse t.whole t.wholes) octet_rule, read_text (count_told s (at + l.coarse) l.fine t.part t.parts) octet_rule)

-- ---- writing
module _ (l : Layout) (r : Time) where
  pub bytes_invalid : is_record r ≡ false → bytes_of l r ≡ refused 7
  unfolding bytes_of
  bytes_invalid v = need_no 7 _ v

  module _ (at : ℕ) (d : List ℕ) where
    pub write_invalid : is_record r ≡ false → Wrote (and_then (bytes_of l r) (roomed d at)) at d d (Err Range)
    unfolding bytes_of
    write_invalid v = refuses Range _ at d (rw v)

    pub write_unjudged : (why : Refusal) → is_record r ≡ true → refused (number why) ≡ settled l (done l) → Wrote (and_then (bytes_of l r) (roomed d at)) at d d (Err why)
    unfolding bytes_of
    write_unjudged why v h = refuses why _ at d (rw (v, ← unsettled (is_width l) (is_epoch l.epoch) 3 7 l (need (holds l r) 7 (done (coded l r))) (number why) h))

  module _ (v : is_record r ≡ true) where
    pub bytes_unknown : is_width l ≡ false → bytes_of l r ≡ refused 3
    unfolding bytes_of
    bytes_unknown h = need_yes 7 _ v ∙ need_no 3 _ h

    pub bytes_epoch : is_width l ≡ true → is_epoch l.epoch ≡ false → bytes_of l r ≡ refused 7
    unfolding bytes_of
    bytes_epoch w h = need_yes 7 _ v ∙ need_yes 3 _ w ∙ need_no 7 _ h

    module _ (h : is_layout l ≡ true) where
      pub bytes_out : holds l r ≡ false → bytes_of l r ≡ refused 7
      unfolding bytes_of is_layout
      bytes_out k = need_yes 7 _ v ∙ needs_yes (is_width l) _ 3 7 _ h ∙ need_no 7 _ k

      pub bytes_in : holds l r ≡ true → bytes_of l r ≡ done (coded l r)
      unfolding bytes_of is_layout
      bytes_in k = need_yes 7 _ v ∙ needs_yes (is_width l) _ 3 7 _ h ∙ need_yes 7 _ k

-- what a time that was written tells
pub record Sourced (l : Layout) (r : Time) (code : List ℕ) : Type 0 where
  pub valid : is_record r ≡ true
  pub layout : is_layout l ≡ true
  pub good : Good l
  pub held : holds l r ≡ true
  pub is : coded l r ≡ code

pub bytes_told : (l : Layout) (r : Time) (code : List ℕ) → bytes_of l r ≡ done code → Sourced l r code
unfolding bytes_of is_layout
bytes_told l r code e =
    let (v, f) = need_done (is_record r) 7 _ code e in
    let (h, i) = needs_done (is_width l) (is_epoch l.epoch) 3 7 _ code f in
    let (k, j) = need_done (holds l r) 7 (done (coded l r)) code i in
    record { valid = v; layout = h; good = layout_good l h; held = k; is = done_is _ code j }
