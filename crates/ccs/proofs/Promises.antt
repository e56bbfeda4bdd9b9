-- What spans two calls of CCS, as theorems about the definitions that the contracts cite: what is read is a moment, what is written reads as the last of its second's fractions that a layout has a code for and that is not after the source, and what is read is written back to the same octets.
use mathlib.Core.Path.{◌≡◌, refl, sym, ap, ◌∙◌}
use mathlib.Core.Bool.{Bool, true, false}
use mathlib.Core.List.{List, [], ◌++◌, append-nil}
use Prim.Native.Nat.{ℕ, ◌+◌, ◌<◌, ◌≤◌}
use native.Mathlib.Omega.{arith}
use lib.Dec.{leb}
use lib.IntN.{ℤ, pos, negsuc, nat_abs, ◌+ℤ◌}
use lib.ListN.{length, take, drop}
use borrow.Author.Tests.{le-leb, leb-true}
use Rattle.base.specs.Outcome.{Outcome, done, refused, and_then, given}
use Rattle.base.proofs.Ladders.{need_yes, need_no, need_done, then_done, done_is}
use Rattle.base.proofs.Signed.{within_high}
use Rattle.base.specs.Parts.{within}
use Rattle.scale.specs.Time.{per_second}
use Rattle.scale.proofs.Fractions.{ticks_lt, part_lt, part_ticks, part_le, part_most}
use Rattle.moment.specs.Moment.{moment, is_moment, Floor}
use Rattle.moment.specs.declared.Moment.{Moment}
use Rattle.moment.proofs.Laws.{moment_parts, parts_moment}
use Rattle.calendar.specs.Gregorian.{index_of_day, ordinal_at, date_at}
use Rattle.calendar.proofs.Numbers.{number_at_lem, number_of_index}
use Rattle.calendar.proofs.Promises.{ordinal_at_done, date_at_done}
use Rattle.octets.specs.Places.{bcd}
use Rattle.ccs.specs.declared.Layout.{Layout}
use Rattle.ccs.specs.Ccs.{is_layout, width, pairs, day_at, clock_at, ticks_of, field, Reads, ordinal_text, month_text, date_text, clock_text, part_of, bytes_of}
use Rattle.ccs.proofs.Pairs.{pair_told}
use Rattle.ccs.proofs.Parts.{grain, pair_digits}
use Rattle.ccs.proofs.Wholes.{day_in, clock_in, day_whole, clock_whole, day_run, clock_run, digits_of, clock_text_lem}
use Rattle.ccs.proofs.Rungs.{width_is, code_text, code_length, dated}
use Rattle.ccs.proofs.Turns.{date_written, date_read, clock_written, clock_read, Read, code_read, read_code}

-- ---- what an answered reading says
record Named (s : List ℕ) (at : ℕ) (l : Layout) (m : Moment) : Type 0 where
  pub few : l.segments ≤ 6
  pub date : ℕ
  pub clock : ℕ
  pub part : ℕ
  pub day : ℤ
  pub second : ℕ
  pub read : Read s at l.segments date clock part
  pub dated : day_in l.ordinal date ≡ done day
  pub clocked : clock_in clock ≡ done second
  pub is : moment day second (ticks_of l.segments part) ≡ m

named : (s : List ℕ) (at : ℕ) (l : Layout) (m : Moment) → field s at l ≡ done m → Named s at l m
unfolding field
named s at l m e =
    let o = l.ordinal in
    let w = l.segments in
    let (a, b) = need_done (leb w 6) 3 _ m e in
    let h : w ≤ 6 = leb-true w 6 a in
    let (c, d) = need_done (leb (at + width l) (length s)) 1 _ m b in
    let k : at + (7 + w) ≤ length s = rw (width_is l h) at (leb-true (at + width l) (length s) c) in
    let (day, (p, f)) = then_done (day_at o s at) _ m d in
    let (x, (q, g)) = then_done (clock_at s (at + 4)) _ m f in
    let (y, (r, j)) = then_done (pairs s (at + 7) w) _ m g in
    let (n, (n1, n2)) = then_done (pairs s at 4) (day_in o) day (sym (day_whole s at o (omega arith)) ∙ p) in
    let (i, (i1, i2)) = then_done (pairs s (at + 4) 3) clock_in x (sym (clock_whole s (at + 4) (omega arith)) ∙ q) in
    record {
      few = h;
      date = n;
      clock = i;
      part = y;
      day = day;
      second = x;
      read = record { held = k; dates = n1; clocks = i1; parts = r };
      dated = n2;
      clocked = i2;
      is = done_is (moment day x (ticks_of w y)) m j;
    }

-- and the digits that say it are read so
reads_as : (s : List ℕ) (at : ℕ) (l : Layout) (date clock part : ℕ) (day : ℤ) (second : ℕ) → l.segments ≤ 6 → Read s at l.segments date clock part → day_in l.ordinal date ≡ done day → clock_in clock ≡ done second → field s at l ≡ done (moment day second (ticks_of l.segments part))
unfolding field
reads_as s at l date clock part day second h r p q =
    rw (
      le-leb l.segments 6 h,
      width_is l h,
      le-leb (at + (7 + l.segments)) (length s) r.held,
      day_run s at (omega (arith, r.held)) l.ordinal r.dates ∙ p,
      clock_run s (at + 4) (omega (arith, r.held)) r.clocks ∙ q,
      r.parts,
    )

-- ---- what a written code is
record Coded (l : Layout) (m : Moment) (code : List ℕ) : Type 0 where
  pub few : l.segments ≤ 6
  pub second : m.second ≤ 86400
  pub ticks : m.ticks < per_second
  pub date : ℕ
  pub small : date < 100000000
  pub dated : day_in l.ordinal date ≡ done m.day
  pub text : code ≡ code_text l.segments date (digits_of m.second) (part_of l.segments m.ticks)

coded : (l : Layout) (m : Moment) (code : List ℕ) → bytes_of l m ≡ done code → Coded l m code
unfolding bytes_of
coded l m code e =
    let w = l.segments in
    let (a, b) = need_done (leb w 6) 3 _ code e in
    let (c, d) = need_done (is_moment m) 7 _ code b in
    let (k, j) = moment_parts m c in
    let (x, (q, i)) = then_done (date_text l.ordinal m.day) _ code d in
    let y = date_written l.ordinal m.day x q in
    let part = bcd w (part_of w m.ticks) in
    record {
      few = leb-true w 6 a;
      second = k;
      ticks = j;
      date = y.date;
      small = y.small;
      dated = y.names;
      text = sym (done_is _ code i) ∙ ap (λ (z : List ℕ). z ++ (clock_text m.second ++ part)) y.text ∙ ap (λ (z : List ℕ). bcd 4 y.date ++ (z ++ part)) (sym (clock_text_lem m.second k));
    }

-- ---- reading
module _ (s : List ℕ) (at : ℕ) (l : Layout) (m : Moment) (e : field s at l ≡ done m) where
  -- what is read is a moment
  pub read_valid : is_moment m ≡ true
  read_valid =
      let n = named s at l m e in
      let w = l.segments in
      let p = (read_code s at w n.date n.clock n.part n.read).0 in
      rw (← n.is) (parts_moment (moment n.day n.second (ticks_of w n.part)) (clock_read n.clock n.second n.clocked).0 (ticks_lt (grain w n.few) n.part (rw (pair_digits w) at p)))

  -- and its octets were there
  pub read_width : at + width l ≤ length s
  read_width = let n = named s at l m e in rw (width_is l n.few) n.read.held

  -- writing it gives the same octets
  pub read_written : bytes_of l m ≡ done (take (width l) (drop at s))
  read_written =
      let n = named s at l m e in
      let w = l.segments in
      let q = (read_code s at w n.date n.clock n.part n.read).1 in
      let d : date_text l.ordinal m.day ≡ done (bcd 4 n.date) = ap (λ (i : Moment). date_text l.ordinal i.day) (sym n.is) ∙ date_read l.ordinal n.day n.date n.dated in
      let c : clock_text m.second ≡ bcd 3 n.clock = ap (λ (i : Moment). clock_text i.second) (sym n.is) ∙ (clock_read n.clock n.second n.clocked).1 in
      let k : part_of w m.ticks ≡ n.part = ap (λ (i : Moment). part_of w i.ticks) (sym n.is) ∙ part_ticks (grain w n.few) n.part in
      dated l m (le-leb w 6 n.few) read_valid d
      ∙ ap done ((λ i. bcd 4 n.date ++ (c i ++ bcd w (k i))) ∙ sym q ∙ ap (λ (i : ℕ). take i (drop at s)) (sym (width_is l n.few)))

  -- a moment that is read at any place is one that the layout has a code for
  pub read_anywhere : Reads l m
  read_anywhere =
      let n = named s at l m e in
      let w = l.segments in
      let code = code_text w n.date n.clock n.part in
      let p = (pair_told s at 4 n.date n.read.dates).0 in
      let q = (pair_told s (at + 4) 3 n.clock n.read.clocks).0 in
      let k = (pair_told s (at + 7) w n.part n.read.parts).0 in (
        code,
        reads_as code 0 l n.date n.clock n.part n.day n.second n.few (code_read code [] 0 w n.date n.clock n.part n.few p q k (omega arith) (sym (append-nil code))) n.dated n.clocked ∙ ap done n.is,
      )

-- ---- writing
-- a source with its ticks downward
abbrev pub cut : Layout → Moment → Moment
cut l m = moment m.day m.second (ticks_of l.segments (part_of l.segments m.ticks))

-- no fraction that the layout has a code for lies between
cut_most : (l : Layout) (m x : Moment) → Reads l x → x.ticks ≤ m.ticks → x.ticks ≤ (cut l m).ticks
cut_most l m x (s, e) h =
    let n = named s 0 l x e in
    let p : ticks_of l.segments n.part ≡ x.ticks = ap (λ (i : Moment). i.ticks) n.is in
    rw p at (part_most (grain l.segments n.few) m.ticks n.part (rw p h))

module _ (l : Layout) (m : Moment) (code : List ℕ) (e : bytes_of l m ≡ done code) where
  pub write_width : length code ≡ width l
  write_width =
      let c = coded l m code e in
      ap length c.text ∙ code_length l.segments c.date (digits_of m.second) (part_of l.segments m.ticks) ∙ sym (width_is l c.few)

  reads_back : (s t : List ℕ) (at : ℕ) → at ≤ length s → drop at s ≡ code ++ t → field s at l ≡ done (cut l m)
  reads_back s t at h d =
      let c = coded l m code e in
      let w = l.segments in
      let part = part_of w m.ticks in
      let (k, f) = clock_written m.second c.second in
      reads_as s at l c.date (digits_of m.second) part m.day m.second c.few
      (code_read s t at w c.date (digits_of m.second) part c.few c.small k (rw (pair_digits w) (part_lt (grain w c.few) m.ticks c.ticks)) h (d ∙ ap (λ (z : List ℕ). z ++ t) c.text))
      c.dated f

  -- a written code, wherever it stands, reads as one moment: in the source's second, the last that the layout has a code for and that is not after the source
  pub written_reads : (n : Moment) × (Floor (Reads l) m n) × ((s t : List ℕ) (at : ℕ) → at ≤ length s → drop at s ≡ code ++ t → field s at l ≡ done n)
  written_reads =
      let c = coded l m code e in (
        cut l m,
        record {
          had = (code, reads_back code [] 0 (omega arith) (sym (append-nil code)));
          day = refl;
          second = refl;
          below = part_le (grain l.segments c.few) m.ticks;
          most = cut_most l m;
        },
        reads_back,
      )

-- ---- refused exactly where the calendar ends: CCS holds every moment of the calendar's days
index_low : (d : ℤ) (n : ℕ) → index_of_day d ≡ done n → n ≤ 3652058
unfolding index_of_day
index_low d n e =
    let f = (need_done (within (negsuc 714778) (pos 2937279) d) 7 (done (nat_abs (d +ℤ pos 714779))) n e).0 in
    let p = rw (number_of_index d n e) at (number_at_lem n) in
    omega (arith, p, within_high (negsuc 714778) (pos 2937279) d f)

date_done : (o : Bool) (d : ℤ) (n : ℕ) → index_of_day d ≡ done n → (t : List ℕ) × (date_text o d ≡ done t)
unfolding date_text
date_done true d n e = (_, ap (λ (x : Outcome ℕ). given ordinal_text (and_then x ordinal_at)) e ∙ ap (given ordinal_text) (ordinal_at_done n (index_low d n e)))
date_done false d n e = (_, ap (λ (x : Outcome ℕ). given month_text (and_then x date_at)) e ∙ ap (given month_text) (date_at_done n (index_low d n e)))

date_out : (o : Bool) (d : ℤ) → index_of_day d ≡ refused 7 → date_text o d ≡ refused 7
unfolding date_text
date_out true d e = ap (λ (x : Outcome ℕ). given ordinal_text (and_then x ordinal_at)) e
date_out false d e = ap (λ (x : Outcome ℕ). given month_text (and_then x date_at)) e

module _ (l : Layout) (m : Moment) where
  pub layout_refused : is_layout l ≡ false → bytes_of l m ≡ refused 3
  unfolding bytes_of
  layout_refused h = need_no 3 _ h

  module _ (h : is_layout l ≡ true) where
    pub moment_refused : is_moment m ≡ false → bytes_of l m ≡ refused 7
    unfolding bytes_of
    moment_refused g = need_yes 3 _ h ∙ need_no 7 _ g

    module _ (g : is_moment m ≡ true) where
      pub outside_refused : index_of_day m.day ≡ refused 7 → bytes_of l m ≡ refused 7
      outside_refused e = dated l m h g (date_out l.ordinal m.day e)

      pub written : (n : ℕ) → index_of_day m.day ≡ done n → (code : List ℕ) × (bytes_of l m ≡ done code)
      written n e = let (t, p) = date_done l.ordinal m.day n e in (_, dated l m h g p)
