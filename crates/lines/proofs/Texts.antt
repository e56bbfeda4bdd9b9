-- What is printed for a line, by its outcome, and put into lent bytes.
use mathlib.Core.Path.{◌≡◌, refl, sym, ap, ◌∙◌}
use mathlib.Core.Bool.{Bool, true, false, cond}
use mathlib.Core.List.{List, [], ◌∷◌, ◌++◌}
use Prim.Native.Nat.{ℕ, ◌+◌, ◌<◌, ◌≤◌}
use native.Mathlib.Omega.{arith}
use lib.Dec.{leb, ltb}
use lib.ListN.{length, set, drop, length-append, length-drop}
use borrow.Author.Tests.{le-leb, lt-leb, lt-ltb, le-ltb}
use Rattle.base.specs.Outcome.{Outcome, done, refused, and_then}
use Rattle.base.specs.Refusals.{number}
use Rattle.base.specs.declared.Refusal.{Refusal}
use Rattle.base.specs.declared.Refusal.TheVariants.{Field}
use Rattle.base.proofs.Ladders.{never, done_is, refused_is, need_yes, need_no, need_done, then_done}
use Rattle.scale.specs.Time.{Time}
use Rattle.octets.specs.Places.{digit_of, digits}
use Rattle.octets.specs.Stores.{pasted, Stored}
use Rattle.octets.specs.Writes.{roomed, Wrote}
use Rattle.octets.proofs.Places.{length_places}
use Rattle.octets.proofs.Writes.{refuses, room_in}
use Rattle.octets.proofs.Pastes.{length_pasted, paste_first, paste_one, then, stored}
use Rattle.shape.specs.Quoted.{bytes}
use Rattle.ascii.specs.Ascii.{width}
use Rattle.leap.specs.Builtin.{builtin}
use Rattle.codes.specs.Text.{text_of, letters}
use Rattle.codes.proofs.Texts.{write_width}
use Rattle.codes.specs.Setting.{default_layout, wall_of}
use Rattle.lines.specs.Answer.{figures, printed, outcome_of, answer_of}
use Rattle.std.specs.Prelude.{Result, Ok, Err}

-- ---- a refusal
pub figures_in : (n : ℕ) → (1 ≤ figures n) × (figures n ≤ 2)
figures_in n = go (ltb n 10)
  where
    go : (b : Bool) → (1 ≤ cond b 1 2) × (cond b 1 2 ≤ 2)
    go true = omega arith
    go false = omega arith

pub one_figure : (n : ℕ) → n < 10 → 1 ≡ figures n
one_figure n h = rw (lt-ltb n 10 h)

pub two_figures : (n : ℕ) → 10 ≤ n → 2 ≡ figures n
two_figures n h = rw (le-ltb n 10 h)

pub put_figures : (d e : List ℕ) (at n : ℕ) {w : ℕ} {r : Bool} → w ≡ figures n → at + 2 ≤ length d → Stored (digits w n) at d e r → (w ≡ figures n) × (e ≡ pasted d at (digits (figures n) n))
put_figures d e at n {w} i h s =
    let k : length (digits w n) ≡ w = length_places 10 digit_of w n in
    (i, (stored (omega (arith, figures_in n)) s).1 ∙ ap (λ (m : ℕ). pasted d at (digits m n)) i)

pub length_refused : (n : ℕ) → length (printed (refused n)) ≡ 9 + figures n
unfolding printed
length_refused n = simp length-append (omega (arith, length_places 10 digit_of (figures n) n))

-- the word, the number and the line feed, one after another
pub stored_refusal : (d a b : List ℕ) (at n w : ℕ) → at + 80 ≤ length d → a ≡ pasted d at (bytes "refused ") → b ≡ pasted a (at + 8) (digits (figures n) n) → w ≡ figures n
    → (at + 8 + w < length b) × (set b (at + 8 + w) 10 ≡ pasted d at (printed (refused n)))
unfolding printed
stored_refusal d a b at n w h e f g =
    let (_, k) = figures_in n in
    let t = digits (figures n) n in
    let lt : length t ≡ figures n = length_places 10 digit_of (figures n) n in
    let la : length a ≡ length d = ap length e ∙ length_pasted d at (bytes "refused ") (omega arith) in
    let lb : length b ≡ length a = ap length f ∙ length_pasted a (at + 8) t (omega arith) in
    let s : set b (at + 8 + w) 10 ≡ pasted b (at + 8 + w) (10 ∷ []) = paste_one b (at + 8 + w) 10 (omega arith) in
    (omega arith, then d (bytes "refused ") (t ++ 10 ∷ []) at (at + 8) e (then a t (10 ∷ []) (at + 8) (at + 8 + w) f s (omega arith) (omega arith)) (omega arith) (omega arith))

-- the same, as the code puts them into the first bytes
pub told : (d a b : List ℕ) (n m w : ℕ) (r : Bool) → 80 ≤ length d → a ≡ bytes "refused " → Stored (digits w m) 8 (a ++ drop 8 d) b r → m ≡ n → w ≡ figures n
    → (8 + w + 1 ≡ length (printed (refused n))) × (set b (8 + w) 10 ≡ pasted d 0 (printed (refused n)))
told d a b n m w r h e s k l =
    let f : a ++ drop 8 d ≡ pasted d 0 (bytes "refused ") = rw e (sym (paste_first d (bytes "refused "))) in
    let (_, g) = put_figures (a ++ drop 8 d) b 8 n l (omega (arith, length-append a (drop 8 d), length-drop 8 d, ap length e)) (rw k at s) in
    (omega (arith, length_refused n), (stored_refusal d (a ++ drop 8 d) b 0 n w h f g l).1)

-- ---- the outcome of a line
pub of_long : (p : List ℕ) → 64 < length p → outcome_of builtin p ≡ refused 4
unfolding outcome_of
of_long p h = need_no 4 _ (lt-leb (length p) 64 h)

pub of_read : (p : List ℕ) → length p ≤ 64 → (x : Outcome Time) → x ≡ text_of builtin p → outcome_of builtin p ≡ and_then x (letters builtin default_layout)
unfolding outcome_of
of_read p h x e = need_yes 4 _ (le-leb (length p) 64 h) ∙ ap (λ (y : Outcome Time). and_then y (letters builtin default_layout)) (sym e)

-- ---- a line rewritten, by what its reading tells
pub long_refused : (p d : List ℕ) → 64 < length p → Wrote (and_then (outcome_of builtin p) (roomed d 0)) 0 d d (Err Field)
long_refused p d h = refuses Field _ 0 d (ap (λ (x : Outcome (List ℕ)). and_then x (roomed d 0)) (of_long p h))

pub read_refused : (p d : List ℕ) (why : Refusal) → length p ≤ 64 → refused (number why) ≡ text_of builtin p → Wrote (and_then (outcome_of builtin p) (roomed d 0)) 0 d d (Err why)
read_refused p d why h e = refuses why _ 0 d (ap (λ (x : Outcome (List ℕ)). and_then x (roomed d 0)) (of_read p h (refused (number why)) e))

pub read_written : (p d e : List ℕ) (t : Time) (a : Result ℕ Refusal) → length p ≤ 64 → done t ≡ text_of builtin p → Wrote (wall_of builtin t d) 0 d e a → Wrote (and_then (outcome_of builtin p) (roomed d 0)) 0 d e a
read_written p d e t a h f w = rw (of_read p h (done t) f) w

-- a code of the default layout has 24 bytes
pub length_code : (t : Time) (code : List ℕ) → letters builtin default_layout t ≡ done code → length code ≡ 24
unfolding width
length_code t code e = write_width builtin default_layout t code e

length_printed : (x : Outcome (List ℕ)) → ((code : List ℕ) → x ≡ done code → length code ≡ 24) → length (printed x) ≤ 25
unfolding printed
length_printed (done code) h = omega (arith, length-append code (10 ∷ []), h code refl)
length_printed (refused n) h = omega (arith, length_refused n, figures_in n)

pub done_length : (p code : List ℕ) → outcome_of builtin p ≡ done code → length code ≡ 24
unfolding outcome_of
done_length p code e =
    let (t, (f, g)) = then_done (text_of builtin p) (letters builtin default_layout) code (need_done (leb (length p) 64) 4 _ code e).1 in
    length_code t code g

pub length_answer : (p : List ℕ) → length (answer_of builtin p) ≤ 25
length_answer p = length_printed (outcome_of builtin p) (done_length p)

-- ---- what a write left, where there was room
pub record Shown (x : Outcome (List ℕ)) (at : ℕ) (old new : List ℕ) (end : ℕ) : Type 0 where
  pub within : end < length new
  pub past : end + 1 ≡ at + length (printed x)
  pub put : set new end 10 ≡ pasted old at (printed x)

module _ (x : Outcome (List ℕ)) (at : ℕ) (old : List ℕ) (room : at + 80 ≤ length old) (size : (code : List ℕ) → x ≡ done code → length code ≡ 24) where
  roomy : (y : Outcome (List ℕ)) → x ≡ y → and_then y (roomed old at) ≡ y
  roomy (done code) e = room_in code at old (omega (arith, size code e))
  roomy (refused n) e = refl

  pub refused_line : (why : Refusal) (new : List ℕ) (a : Result ℕ Refusal) → a ≡ Err why → Wrote (and_then x (roomed old at)) at old new a → (new ≡ old) × (x ≡ refused (number why))
  refused_line why new a f w = go x refl (rw (roomy x refl, f) at w)
    where
      go : (y : Outcome (List ℕ)) → x ≡ y → Wrote y at old new (Err why) → (new ≡ old) × (x ≡ refused (number why))
      go (done code) e v = never (number why) _ v.answer
      go (refused n) e v = (v.bytes, e ∙ ap refused (sym (refused_is (number why) n v.answer)))

  pub written_line : (end : ℕ) (new : List ℕ) (a : Result ℕ Refusal) → a ≡ Ok end → Wrote (and_then x (roomed old at)) at old new a → Shown x at old new end
  unfolding printed
  written_line end new a f w = go x refl (rw (roomy x refl, f) at w)
    where
      go : (y : Outcome (List ℕ)) → x ≡ y → Wrote y at old new (Ok end) → Shown x at old new end
      go (done code) e v =
          let n : end ≡ at + length code = done_is end (at + length code) v.answer in
          let k = size code e in
          let l : length new ≡ length old = ap length v.bytes ∙ length_pasted old at code (omega arith) in
          let s : set new end 10 ≡ pasted new end (10 ∷ []) = paste_one new end 10 (omega arith) in
          record {
            within = omega arith;
            past = rw e (omega (arith, length-append code (10 ∷ [])));
            put = rw e (then old code (10 ∷ []) at end v.bytes s n (omega arith));
          }
      go (refused m) e v = never m _ (sym v.answer)
