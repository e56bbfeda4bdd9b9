-- The ladder of a CUC tag, rung by rung; and what a tag that was read tells.
use mathlib.Core.Path.{◌≡◌, refl, sym, ap, ◌∙◌}
use mathlib.Core.Bool.{Bool, true, false}
use mathlib.Core.List.{List}
use Prim.Native.Nat.{ℕ, ◌+◌, ◌^◌, ◌<◌, ◌≤◌}
use native.Mathlib.Omega.{arith}
use borrow.Author.Tests.{le-leb, lt-leb}
use lib.Dec.{leb, lit<}
use lib.IntN.{ℤ}
use lib.ListN.{length}
use Rattle.base.specs.Outcome.{Outcome, done, refused, need, and_then}
use Rattle.base.proofs.Ladders.{never, need_yes, need_no, need_done, then_done, done_is}
use Rattle.scale.specs.Time.{Time}
use Rattle.scale.proofs.Laws.{good_within}
use Rattle.window.specs.Seconds.{raised_by}
use Rattle.window.specs.Window.{Lists}
use Rattle.counter.specs.Counter.{list_of}
use Rattle.counter.proofs.Laws.{good_so}
use Rattle.cuc.specs.Cuc.{field, width, is_width}
use Rattle.cuc.proofs.Layouts.{width_some, width_none, widths}
use Rattle.cuc.specs.declared.Layout as U
use Rattle.cuc.proofs.Widths.{power_pos, power_le, power_in_lem}
use Rattle.cuc.proofs.Fields.{field_told}
use Rattle.cuc.proofs.Promises.{read_valid}
use Rattle.octets.specs.Powers.{power_in}
use Rattle.pfield.specs.PField.{headed_of}
use Rattle.pfield.specs.declared.Codes.TheVariants as Codes
use Rattle.pfield.specs.declared.Preamble.{Preamble}
use Rattle.pfield.specs.declared.Layout.{Layout}
use Rattle.pfield.specs.declared.Layout.TheVariants.{Cuc, Cds, Ccs}
use Rattle.listing.specs.Records.{start_at, moments_in}
use Rattle.listing.specs.CucTag.{Periodic, tag_with, tag_in, periodic_of, list_periodic}
use Rattle.listing.specs.Inner.{Short}
use Rattle.listing.proofs.Windows.{Ordered, windowed_yes, start_low}
use Rattle.std.specs.Prelude.{Result}
use Rattle.base.specs.declared.Refusal.{Refusal}
use Rattle.pfield.specs.declared.Head.{Head}
use Rattle.window.specs.declared.Listed.{Listed}

-- ---- the rungs
module _ (s : List ℕ) (at : ℕ) (l : U.Layout) where
  abbrev pub whole : Time → Outcome Periodic
  whole m = need (leb (length s) (at + width l)) 4 (done (record { first = m; period = 256 ^ l.coarse }))

  pub tag_short : (n : ℕ) → field s at l ≡ refused n → tag_with s at l ≡ refused n
  unfolding tag_with
  tag_short n h = ap (λ (x : Outcome Time). and_then x whole) h

  module _ (m : Time) (h : field s at l ≡ done m) where
    pub tag_long : at + width l < length s → tag_with s at l ≡ refused 4
    unfolding tag_with
    tag_long k = ap (λ (x : Outcome Time). and_then x whole) h ∙ need_no 4 _ (lt-leb (length s) (at + width l) k)

    pub tag_whole : length s ≤ at + width l → tag_with s at l ≡ done (record { first = m; period = 256 ^ l.coarse })
    unfolding tag_with
    tag_whole k = ap (λ (x : Outcome Time). and_then x whole) h ∙ need_yes 4 _ (le-leb (length s) (at + width l) k)

    -- the code's table has the period
    pub tag_power : power_in 256 8 l.coarse ≡ 256 ^ l.coarse
    tag_power = let k = field_told s at l m h in power_in_lem l.coarse (omega (arith, k.good.narrow))

-- ---- a tag that was read has a first moment that is a record, and a short period
pub tag_with_lem : (s : List ℕ) (at : ℕ) (l : U.Layout) (g : Periodic) → tag_with s at l ≡ done g → Short g
unfolding tag_with
tag_with_lem s at l g h =
    let (m, (f, k)) = then_done (field s at l) (whole s at l) g h in
    let (_, i) = need_done (leb (length s) (at + width l)) 4 _ g k in
    let e = done_is _ g i in
    rw (← e)
    (record {
      valid = good_within (2 ^ 41) m (lit< tt) (read_valid s at l m f);
      some = power_pos l.coarse;
      short = omega (arith, power_le l.coarse 4 (field_told s at l m f).good.narrow);
    })

tag_in_lem : (s : List ℕ) (at : ℕ) (l : Layout) (g : Periodic) → tag_in s at l ≡ done g → Short g
unfolding tag_in
tag_in_lem s at (Cuc l) g h = tag_with_lem s at l g h
tag_in_lem s at (Cds l) g h = never 2 g h
tag_in_lem s at (Ccs l) g h = never 2 g h

pub tag_good_lem : (s : List ℕ) (p : Preamble) (e : ℤ) (g : Periodic) → periodic_of s p e ≡ done g → Short g
unfolding periodic_of
tag_good_lem s p e g h =
    let (k, (_, i)) = then_done (headed_of Codes.Cuc s p e) (λ (k : Head). tag_in s k.start k.layout) g h in
    tag_in_lem s k.start k.layout g i

-- what the counter lists from the tag's second on, between the window's ends, is the tag's listing
module _ (from to : Time) (g : Periodic) (t : Short g) (o : Ordered from to) where
  periodic_lists : list_of (raised_by (2 ^ 41) g.first.sec) g.period (start_at (2 ^ 41) g.first.ticks from) (start_at (2 ^ 41) g.first.ticks to) g.first.ticks ≡ list_periodic from to g
  unfolding list_periodic list_of moments_in
  periodic_lists =
      need_yes 7 _ (good_so (raised_by (2 ^ 41) g.first.sec) g.period (start_at (2 ^ 41) g.first.ticks from) (start_at (2 ^ 41) g.first.ticks to)
      (record {
        some = t.some;
        short = t.short;
        based = omega (arith, t.valid);
        starts = start_low g.first.ticks from o.starts;
        ends = start_low g.first.ticks to o.ends;
      }))
      ∙ sym (windowed_yes from to _ o)

  pub lists_by : {b x y : ℕ} {entry exit : List ℤ} {r : Result Listed Refusal} → Lists (list_of b g.period x y g.first.ticks) entry exit r → start_at (2 ^ 41) g.first.ticks from ≡ x → start_at (2 ^ 41) g.first.ticks to ≡ y → b ≡ raised_by (2 ^ 41) g.first.sec → Lists (list_periodic from to g) entry exit r
  lists_by l f h e = rw (← periodic_lists, f, h, ← e) l

-- a T-field is short
pub width_low : (l : U.Layout) → width l ≤ 13
width_low l = low (is_width l) refl
  where
    low : (b : Bool) → is_width l ≡ b → width l ≤ 13
    low true e = omega (arith, width_some l e, widths l e)
    low false e = omega (arith, width_none l e)

-- any other code is 2
pub other_tag : (s : List ℕ) (at : ℕ) (l : Layout) → ((u : U.Layout) → l ≡ Cuc u → ⊥) → tag_in s at l ≡ refused 2
unfolding tag_in
other_tag s at (Cuc u) h = absurd (h u refl)
other_tag s at (Cds u) h = refl
other_tag s at (Ccs u) h = refl
