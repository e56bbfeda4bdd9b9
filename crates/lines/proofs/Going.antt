-- The lines of a piece, answered one by one: what holds before each turn of `go_on`, that a turn keeps it, and what is said where it stops.
use mathlib.Core.Path.{◌≡◌, refl, sym, ap, ◌∙◌}
use mathlib.Core.List.{List, [], ◌++◌, append_assoc, append-nil}
use Prim.Native.Nat.{ℕ, suc, ◌+◌, ◌-◌, ◌<◌, ◌≤◌, min}
use native.Mathlib.Nat.{add_assoc}
use native.Mathlib.Numerals.{add-one}
use native.Mathlib.Omega.{arith}
use lib.ListN.{length, take, drop, length-append, length-drop, length-take, take-append-drop}
use lib.Seq.{drop-drop, drop-length, take_at, drop_at, length-take-le}
use borrow.Rule.Slice.PartMut.{put_mid}
use Rattle.std.proofs.lemmas.List.{take_rest}
use borrow.Author.Tests.{lt-ltb, le-ltb, eq-eqb, ne_eqb}
use Rattle.octets.specs.Stores.{pasted}
use Rattle.octets.proofs.Pastes.{length_pasted, paste_first}
use Rattle.leap.specs.Builtin.{builtin}
use Rattle.lines.specs.Answer.{answer_of}
use Rattle.lines.specs.Split.{before, Fate, fate, after, kept, last_of, ending}
use Rattle.lines.specs.Says.{line_of, held_of, over, Fares, Ends}
use Rattle.lines.specs.declared.Fed.{Fed}
use Rattle.lines.proofs.Texts.{length_answer}
use Rattle.lines.proofs.Fills.{take_fill}
use Rattle.lines.proofs.Fates.{kept_small, kept_answer, stops, goes}

-- ---- lent bytes of which a front is written
pub front_pasted : (d : List ℕ) (at to : ℕ) (a : List ℕ) → at ≤ length d → to ≡ at + length a → (take to (pasted d at a) ≡ take at d ++ a) × (drop to (pasted d at a) ≡ drop to d)
unfolding pasted
front_pasted d at to a h e =
    let n : length (take at d ++ a) ≡ to = omega (arith, length-append (take at d) a, length-take-le at d h) in
    (take_at (take at d ++ a) (drop (at + length a) d) to n, drop_at (take at d ++ a) (drop (at + length a) d) to n ∙ ap (λ (k : ℕ). drop k d) (sym e))

-- a front of the bytes from a place on is written: so it is written at that place
pub pasted_part : (d x e a : List ℕ) (n k : ℕ) → x ≡ take k (drop n d) → k ≡ length d - n → e ≡ pasted x 0 a → put_mid n k d e ≡ pasted d n a
unfolding pasted
pasted_part d x e a n k p q r =
    let y : x ≡ drop n d = p ∙ ap (λ (j : ℕ). take j (drop n d)) q ∙ take_rest d n in
    let f : e ≡ a ++ drop (length a) (drop n d) = r ∙ ap (λ (l : List ℕ). pasted l 0 a) y ∙ paste_first (drop n d) a in
    let l : k ≡ length (drop n d) = omega (arith, length-drop n d) in
    let z : drop k (drop n d) ≡ [] = ap (λ (j : ℕ). drop j (drop n d)) l ∙ drop-length (drop n d) in
    rw (f, drop-drop (length a) n d, z) (simp (append_assoc, append-nil))

-- bytes that agree past a place agree past any later one
pub agree_past : (x y : List ℕ) (n m : ℕ) → n ≤ m → drop n x ≡ drop n y → drop m x ≡ drop m y
agree_past x y n m h e =
    let k : n + (m - n) ≡ m = omega arith in
    sym (drop-drop (m - n) n x ∙ ap (λ (j : ℕ). drop j x) k) ∙ ap (drop (m - n)) e ∙ drop-drop (m - n) n y ∙ ap (λ (j : ℕ). drop j y) k

-- ---- an answer, from what is held, written and used
pub fares : (f : Fate) (h piece old new : List ℕ) (w u : ℕ) → f ≡ record { held = h; wrote = take w new; used = u } → u ≤ length piece → w ≤ length new → drop w new ≡ drop w old
    → Fares f piece old new (record { line = line_of h; wrote = w; used = u })
fares f h piece old new w u e i j d =
    let n : length (take w new) ≡ w = length-take-le w new j in
    record {
      answer = rw (e, n);
      bytes = rw (e, n, ← d) (sym (take-append-drop w new));
      used_in = i;
      wrote_in = j;
      wrote_all = sym n;
    }

-- one that goes on from another: n bytes were written before, so what it tells of the later bytes is told of those at first
pub fares_on : (f : Fate) (piece old mid new : List ℕ) (n : ℕ) (r : Fed) → n ≤ length f.wrote → drop n mid ≡ drop n old → Fares f piece mid new r → Fares f piece old new r
fares_on f piece old mid new n r l d g =
    record {
      answer = g.answer;
      bytes = g.bytes ∙ ap (λ (x : List ℕ). f.wrote ++ x) (agree_past mid old n (length f.wrote) l d);
      used_in = g.used_in;
      wrote_in = g.wrote_in;
      wrote_all = g.wrote_all;
    }

-- ---- the turns
after_after : (w v : List ℕ) (n m : ℕ) (f : Fate) → after w n (after v m f) ≡ after (w ++ v) (n + m) f
after_after w v n m f = simp (append_assoc, add_assoc)

pub record Going (piece old : List ℕ) (goal : Fate) (out : List ℕ) (begin wrote end : ℕ) : Type 0 where
  pub ahead : end ≡ begin + before (drop begin piece)
  pub within : end ≤ length piece
  pub room : wrote ≤ length old
  pub same : length out ≡ length old
  pub rest : drop wrote out ≡ drop wrote old
  pub whole : after (take wrote out) begin (fate builtin [] (drop begin piece) (length old - wrote)) ≡ goal

module _ {piece old : List ℕ} {goal : Fate} {out : List ℕ} {begin wrote end : ℕ} (g : Going piece old goal out begin wrote end) where
  -- the line that ends next
  line : take (before (drop begin piece)) (drop begin piece) ≡ take (end - begin) (drop begin piece)
  line = let e : before (drop begin piece) ≡ end - begin = omega (arith, g.ahead) in ap (λ (k : ℕ). take k (drop begin piece)) e

  pub stops_here : (end < length piece → length old - wrote < 80) → Fares goal piece old out (record { line = line_of (kept (take (end - begin) (drop begin piece))); wrote = wrote; used = end })
  stops_here h =
      let l : before (drop begin piece) < length (drop begin piece) → length old - wrote < 80 = λ k. h (omega (arith, g.ahead, length-drop begin piece)) in
      let s = stops [] (drop begin piece) (length old - wrote) (omega arith) l in
      let e = g.ahead in
      fares goal (kept (take (end - begin) (drop begin piece))) piece old out wrote end (sym g.whole ∙ ap (after (take wrote out) begin) s ∙ rw (append-nil, ← e, line)) g.within (omega (arith, g.room, g.same)) g.rest

  pub goes_on : (r next : ℕ) (new : List ℕ) → end < length piece → 80 ≤ length old - wrote
      → r ≡ wrote + length (answer_of builtin (take (end - begin) (drop begin piece))) → new ≡ pasted out wrote (answer_of builtin (take (end - begin) (drop begin piece)))
      → next ≡ end + 1 + before (drop (end + 1) piece) → next ≤ length piece → Going piece old goal new (end + 1) r next
  goes_on r next new h k e o ne nl =
      let a = answer_of builtin (take (end - begin) (drop begin piece)) in
      let small = length_answer (take (end - begin) (drop begin piece)) in
      let fit : wrote + length a ≤ length out = omega (arith, g.same, small) in
      let (f, d) = front_pasted out wrote r a (omega (arith, g.same, g.room)) e in
      let b : before (drop begin piece) < length (drop begin piece) = omega (arith, g.ahead, length-drop begin piece) in
      let s = goes [] (drop begin piece) (length old - wrote) (omega arith) k b in
      let q : answer_of builtin (kept (take (before (drop begin piece)) (drop begin piece))) ≡ a = kept_answer _ ∙ ap (answer_of builtin) line in
      let to : drop (suc (before (drop begin piece))) (drop begin piece) ≡ drop (end + 1) piece = drop-drop _ begin piece ∙ (let z : begin + suc (before (drop begin piece)) ≡ end + 1 = omega (arith, g.ahead) in ap (λ (j : ℕ). drop j piece) z) in
      let n : begin + suc (before (drop begin piece)) ≡ end + 1 = omega (arith, g.ahead) in
      let less : length old - wrote - length a ≡ length old - r = omega arith in
      let left = fate builtin [] (drop (end + 1) piece) (length old - r) in
      let turn : fate builtin [] (drop begin piece) (length old - wrote) ≡ after a (suc (before (drop begin piece))) left = s ∙ rw (q, to, less) in
      record {
        ahead = ne;
        within = nl;
        room = omega (arith, g.same);
        same = ap length o ∙ length_pasted out wrote a fit ∙ g.same;
        rest = rw o (d ∙ agree_past out old wrote r (omega arith) g.rest);
        whole =
            rw (o, f)
            (ap (λ (j : ℕ). after (take wrote out ++ a) j left) (sym n)
            ∙ sym (after_after (take wrote out) a begin (suc (before (drop begin piece))) left)
            ∙ ap (after (take wrote out) begin) (sym turn)
            ∙ g.whole);
      }

pub begins : (piece old : List ℕ) (from at end : ℕ) → end ≡ from + before (drop from piece) → end ≤ length piece → at ≤ length old
    → Going piece old (after (take at old) from (fate builtin [] (drop from piece) (length old - at))) old from at end
begins piece old from at end e l h = record { ahead = e; within = l; room = h; same = refl; rest = refl; whole = refl }

-- ---- the whole of `feed`, p being the line so far
module _ (p piece old : List ℕ) (small : length p ≤ 65) where
  -- nothing past the first line is answered
  pub holds_all : (end : ℕ) → end ≡ 0 + before piece → end ≤ length piece → (end < length piece → length old < 80)
      → Fares (fate builtin p piece (length old)) piece old old (record { line = line_of (kept (p ++ take end piece)); wrote = 0; used = end })
  holds_all end e l h =
      let s = stops p piece (length old) small (λ k. h (omega arith)) in
      let z : before piece ≡ end = omega arith in
      fares (fate builtin p piece (length old)) (kept (p ++ take end piece)) piece old old 0 end (s ∙ rw z) l (omega arith) refl

  -- the first line is answered, and the others after it
  pub goes_first : (end wrote : ℕ) (mid new : List ℕ) (r : Fed) → end ≡ 0 + before piece → end < length piece → 80 ≤ length old
      → wrote ≡ length (answer_of builtin (kept (p ++ take end piece))) → mid ≡ pasted old 0 (answer_of builtin (kept (p ++ take end piece)))
      → Fares (after (take wrote mid) (end + 1) (fate builtin [] (drop (end + 1) piece) (length mid - wrote))) piece mid new r → Fares (fate builtin p piece (length old)) piece old new r
  goes_first end wrote mid new r e l h w m g =
      let a = answer_of builtin (kept (p ++ take end piece)) in
      let s = goes p piece (length old) small h (omega arith) in
      let z : before piece ≡ end = omega arith in
      let (f, d) = front_pasted old 0 wrote a (omega arith) (omega arith) in
      let k = length_answer (kept (p ++ take end piece)) in
      let n : length mid ≡ length old = ap length m ∙ length_pasted old 0 a (omega arith) in
      let whole : fate builtin p piece (length old) ≡ after (take wrote mid) (end + 1) (fate builtin [] (drop (end + 1) piece) (length mid - wrote)) = s ∙ rw (z, n, m, f, w, add-one) in
      let x : Fares (fate builtin p piece (length old)) piece mid new r = rw whole g in
      fares_on (fate builtin p piece (length old)) piece old mid new wrote r (rw (s, z) (simp length-append (omega arith))) (ap (drop wrote) m ∙ d) x

-- ---- what a line holds
pub held_small : (n : ℕ) (b : List ℕ) → length (take (min n 65) b) ≤ 65
held_small n b = omega (arith, length-take (min n 65) b)

-- the line of a kept text holds that text
pub held_kept : (p : List ℕ) → held_of (line_of (kept p)) ≡ kept p
held_kept p =
    let s = kept_small p in
    let m : min (length (kept p)) 65 ≡ length (kept p) = omega arith in
    rw m (take_fill 65 (kept p) s)

-- ---- the end of the input
pub ends : (text old new : List ℕ) (r : ℕ) → r ≡ length text → new ≡ over text old → length text ≤ length old → Ends text old new r
ends text old new r e b h =
    let n : length new ≡ length old = ap length b ∙ length-append text (drop (length text) old) ∙ omega (arith, length-drop (length text) old) in
    record { answer = e; bytes = b; wrote_in = omega arith; wrote_all = sym (length-take-le r new (omega arith)) }

module _ (p old : List ℕ) where
  pub ends_full : length old < 80 → Ends (ending builtin p (length old)) old old 0
  unfolding ending
  ends_full h = rw (lt-ltb (length old) 80 h) (ends [] old old 0 refl refl (omega arith))

  pub ends_none : 80 ≤ length old → length p ≡ 0 → Ends (ending builtin p (length old)) old old 0
  unfolding ending last_of
  ends_none h e = rw (le-ltb (length old) 80 h, eq-eqb (length p) 0 e) (ends [] old old 0 refl refl (omega arith))

  pub ends_some : (new : List ℕ) (r : ℕ) → 80 ≤ length old → (length p ≡ 0 → ⊥) → r ≡ length (answer_of builtin p) → new ≡ pasted old 0 (answer_of builtin p) → Ends (ending builtin p (length old)) old new r
  unfolding ending last_of
  ends_some new r h n e b = rw (le-ltb (length old) 80 h, ne_eqb (length p) 0 n) (ends (answer_of builtin p) old new r e (b ∙ paste_first old (answer_of builtin p)) (omega (arith, length_answer p)))
