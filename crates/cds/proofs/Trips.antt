-- What is written reads back, downward, and what was read writes back to the same bytes: both by way of the T-field's three numbers.
use mathlib.Core.Path.{◌≡◌, refl, sym, ap, ◌∙◌}
use mathlib.Core.Bool.{true}
use mathlib.Core.List.{List, [], ◌++◌, append_assoc, append-nil}
use Prim.Native.Nat.{ℕ, ◌+◌, ◌*◌, ◌/◌, ◌%◌, ◌^◌, ◌<◌, ◌≤◌}
use native.Mathlib.Omega.{arith}
use borrow.Author.Tests.{leb-true, ltb-true}
use lib.Dec.{leb, ltb}
use lib.IntN.{pos, nat_abs, ◌+ℤ◌, ◌-ℤ◌}
use lib.ListN.{length, take, drop, length-append, length-drop}
use lib.Seq.{take-add, drop-drop, drop_at}
use Rattle.base.specs.Outcome.{done}
use Rattle.base.proofs.Once.{said_done}
use Rattle.base.proofs.Ladders.{done_is, need_done, needs_done, then_done}
use Rattle.octets.specs.Places.{octet_of, octets}
use Rattle.octets.specs.Counts.{count_at}
use Rattle.octets.proofs.Places.{octet_rule, length_places}
use Rattle.octets.proofs.Counts.{read_text, read_back}
use Rattle.moment.specs.Moment.{moment, is_moment, Floor}
use Rattle.moment.specs.declared.Moment.{Moment}
use Rattle.moment.proofs.Laws.{moment_parts}
use Rattle.cds.specs.Cds.{is_epoch_day, is_width, is_layout, width, parts, per_millisecond, fraction, remainder, moment_by, field, Reads, held, in_octets, coded}
use Rattle.cds.specs.declared.Layout.{Layout}
use Rattle.cds.proofs.Laws.{layout_good, width_is, count_told, count_lt, timed_is, field_is}
use Rattle.cds.proofs.Ticks.{fraction_back, remainder_lt, floor_below, floor_most}
use Rattle.cds.proofs.Stores.{held_so, held_is}
use Rattle.base.specs.Said.{said}
use Rattle.std.specs.Prelude.{Ok}

-- ---- what a reading tells
-- a T-field of three numbers that names x
pub record Timed (l : Layout) (x : Moment) (d m p : ℕ) : Type 0 where
  pub layout : is_layout l ≡ true
  pub day : d < 256 ^ l.day
  pub milli : m ≤ 86400999
  pub part : p < parts l.part
  pub is : moment (l.epoch +ℤ pos d) (m / 1000) (fraction l.part m p) ≡ x

-- it stands at a place of some bytes
pub record Found (s : List ℕ) (at : ℕ) (l : Layout) (x : Moment) : Type 0 where
  pub d : ℕ
  pub m : ℕ
  pub p : ℕ
  pub named : Timed l x d m p
  pub fits : at + (l.day + 4 + l.part) ≤ length s
  pub text : take (l.day + 4 + l.part) (drop at s) ≡ in_octets l d m p

timed_told : (l : Layout) (x : Moment) (d m p : ℕ) → is_layout l ≡ true → d < 256 ^ l.day → moment_by l d m p ≡ done x → Timed l x d m p
unfolding moment_by
timed_told l x d m p a h e =
    let (u, r) = need_done (leb m 86400999) 4 _ x e in
    let (v, w) = need_done (ltb p (parts l.part)) 4 _ x r in
    record {
      layout = a;
      day = h;
      milli = leb-true m 86400999 u;
      part = ltb-true p (parts l.part) v;
      is = done_is _ x w;
    }

texts : (s : List ℕ) (at : ℕ) (l : Layout) (d m p : ℕ) → count_at s at l.day ≡ Ok d → count_at s (at + l.day) 4 ≡ Ok m → count_at s (at + l.day + 4) l.part ≡ Ok p → take (l.day + 4 + l.part) (drop at s) ≡ in_octets l d m p
unfolding in_octets
texts s at l d m p a b c =
    let q : at + (l.day + 4) ≡ at + l.day + 4 = omega arith in
    rw (take-add (l.day + 4) l.part (drop at s), take-add l.day 4 (drop at s), drop-drop l.day at s, drop-drop (l.day + 4) at s, q, read_text (count_told s at l.day d a) octet_rule, read_text (count_told s (at + l.day) 4 m b) octet_rule, read_text (count_told s (at + l.day + 4) l.part p c) octet_rule)

pub found : (s : List ℕ) (at : ℕ) (l : Layout) (x : Moment) → field s at l ≡ done x → Found s at l x
unfolding field is_layout
found s at l x e =
    let (a, f) = needs_done (is_width l) (is_epoch_day l.epoch) 3 7 _ x e in
    let (b, g) = need_done (leb (at + width l) (length s)) 1 _ x f in
    let (d, (i, h)) = then_done (said (count_at s at l.day)) _ x g in
    let (m, (j, k)) = then_done (said (count_at s (at + l.day) 4)) _ x h in
    let (p, (o, q)) = then_done (said (count_at s (at + l.day + 4) l.part)) _ x k in
    let cd = said_done (count_at s at l.day) d i in
    record {
      d = d;
      m = m;
      p = p;
      named = timed_told l x d m p a (count_lt s at l.day d cd) q;
      fits = rw (width_is l a) at (leb-true (at + width l) (length s) b);
      text = texts s at l d m p cd (said_done (count_at s (at + l.day) 4) m j) (said_done (count_at s (at + l.day + 4) l.part) p o);
    }

-- ---- a T-field of three numbers, read
pub laid_reads : (l : Layout) (d m p : ℕ) → is_layout l ≡ true → d < 256 ^ l.day → m < 256 ^ 4 → p < 256 ^ l.part → (s rest : List ℕ) (at : ℕ) → at ≤ length s → drop at s ≡ in_octets l d m p ++ rest → field s at l ≡ moment_by l d m p
unfolding in_octets
laid_reads l d m p e hd hm hp s rest at a f =
    let g = layout_good l e in
    let A = octets l.day d in
    let B = octets 4 m in
    let C = octets l.part p in
    let la : length A ≡ l.day = length_places 256 octet_of l.day d in
    let lb : length B ≡ 4 = length_places 256 octet_of 4 m in
    let lc : length C ≡ l.part = length_places 256 octet_of l.part p in
    let n : length s ≡ at + (l.day + 4 + l.part) + length rest = omega (arith, length-drop at s, ap length f, length-append (A ++ B ++ C) rest, length-append (A ++ B) C, length-append A B) in
    let f1 : drop at s ≡ A ++ (B ++ (C ++ rest)) = f ∙ simp append_assoc in
    let f2 : drop (at + l.day) s ≡ B ++ (C ++ rest) = sym (drop-drop l.day at s) ∙ ap (drop l.day) f1 ∙ drop_at A (B ++ (C ++ rest)) l.day la in
    let f3 : drop (at + l.day + 4) s ≡ C ++ rest = sym (drop-drop 4 (at + l.day) s) ∙ ap (drop 4) f2 ∙ drop_at B (C ++ rest) 4 lb in
    field_is s at l e d m p (omega (arith, n))
    (sym (read_back octet_rule 8 s (B ++ (C ++ rest)) at l.day d (omega (arith, g.day)) hd a f1))
    (sym (read_back octet_rule 8 s (C ++ rest) (at + l.day) 4 m (omega arith) hm (omega (arith, n)) f2))
    (sym (read_back octet_rule 8 s rest (at + l.day + 4) l.part p (omega (arith, g.part)) hp (omega (arith, n)) f3))

-- and it names its moment
pub timed_done : (l : Layout) (x : Moment) (d m p : ℕ) → Timed l x d m p → moment_by l d m p ≡ done x
timed_done l x d m p n = timed_is l d m p n.milli n.part ∙ ap done n.is

-- ---- the three numbers that are written
abbrev day_of : Layout → Moment → ℕ
day_of l m = nat_abs (m.day -ℤ l.epoch)

abbrev pub milli_of : Moment → ℕ
milli_of m = m.second * 1000 + m.ticks / per_millisecond

-- and the moment that they name: the same second, the fraction taken downward
abbrev pub floored : Layout → Moment → Moment
floored l m = moment m.day m.second (fraction l.part (milli_of m) (remainder l.part m.ticks))

module _ (l : Layout) (m : Moment) (e : is_layout l ≡ true) (v : is_moment m ≡ true) (h : held l m.day ≡ true) where
  named : Timed l (floored l m) (day_of l m) (milli_of m) (remainder l.part m.ticks)
  named =
      let (s, k) = moment_parts m v in
      let (q, d) = held_is l m.day h in
      let n : milli_of m / 1000 ≡ m.second = omega (arith, s, k) in
      record {
        layout = e;
        day = d;
        milli = omega (arith, s, k);
        part = remainder_lt l.part m.ticks;
        is = rw (q, n);
      }

  -- the written T-field reads to it wherever it stands
  pub coded_reads : (s rest : List ℕ) (at : ℕ) → at ≤ length s → drop at s ≡ coded l m ++ rest → field s at l ≡ done (floored l m)
  coded_reads s rest at a f =
      let z = layout_good l e in
      laid_reads l (day_of l m) (milli_of m) (remainder l.part m.ticks) e named.day (omega (arith, named.milli)) (omega (arith, named.part, z.fit)) s rest at a f
      ∙ timed_done l (floored l m) _ _ _ named

  -- and no T-field reads to ticks between its own and the source's
  pub coded_floor : Floor (Reads l) m (floored l m)
  coded_floor = record {
    had = (coded l m, coded_reads (coded l m) [] 0 (omega arith) (sym (append-nil (coded l m))));
    day = refl;
    second = refl;
    below = omega (arith, whole, floor_below l.part m.ticks);
    most = λ x r k.
        let f = found r.0 0 l x r.1 in
        let t = ap (λ (c : Moment). c.ticks) f.named.is in
        omega (arith, whole, t, floor_most l.part m.ticks (f.m % 1000) f.p f.named.part (omega (arith, k, t)));
  }
    where
      whole : milli_of m % 1000 ≡ m.ticks / per_millisecond
      whole = omega (arith, moment_parts m v)

-- ---- a moment that is read is held, and its three numbers are those of its T-field
pub named_coded : (l : Layout) (x : Moment) (d m p : ℕ) → Timed l x d m p → (held l x.day ≡ true) × (coded l x ≡ in_octets l d m p)
named_coded l x d m p n =
    let (a, b) = held_so l x.day d (ap (λ (c : Moment). c.day) n.is) n.day in
    let (q, o) = fraction_back l.part m p n.part in
    let s = ap (λ (c : Moment). c.second) n.is in
    let t = ap (λ (c : Moment). c.ticks) n.is in
    (a, rw (b, ← s, ← t, q, o))
