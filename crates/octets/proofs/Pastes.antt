-- Texts stored into lent bytes, one after another.
use mathlib.Core.Path.{◌≡◌, sym, ap, ◌∙◌}
use mathlib.Core.Bool.{Bool, true, false}
use mathlib.Core.List.{List, [], ◌∷◌, ◌++◌, append_assoc, append-nil}
use Prim.Native.Nat.{ℕ, suc, ◌+◌, ◌<◌, ◌≤◌}
use native.Mathlib.Nat.{zero-add}
use native.Mathlib.Omega.{arith}
use borrow.Author.Tests.{le-leb, lt-leb}
use borrow.Rule.Slice.PartMut.{put_mid}
use lib.ListN.{length, take, drop, set, take-append-drop, length-append, length-drop}
use lib.Seq.{drop-set-lt, take_at, drop_at, length-take-le, drop-drop, take-suc-set}
use Rattle.base.proofs.Bools.{cond_yes, cond_no}
use Rattle.octets.specs.Stores.{pasted, Stored}

pub length_pasted : (d : List ℕ) (at : ℕ) (a : List ℕ) → at + length a ≤ length d → length (pasted d at a) ≡ length d
unfolding pasted
length_pasted d at a h = simp (length-append, length-drop, length-take-le at d (omega arith)) (omega arith)

pub paste_none : (d : List ℕ) (at : ℕ) → d ≡ pasted d at []
unfolding pasted
paste_none d at = let e : at + 0 ≡ at = omega arith in rw (e, append-nil) (sym (take-append-drop at d))

pub paste_first : (d a : List ℕ) → pasted d 0 a ≡ a ++ drop (length a) d
unfolding pasted
paste_first d a = rw zero-add

-- from its place on, the text and what follows it
pub drop_pasted : (d : List ℕ) (at : ℕ) (a : List ℕ) → at ≤ length d → drop at (pasted d at a) ≡ a ++ drop (at + length a) d
unfolding pasted
drop_pasted d at a h = rw append_assoc (drop_at (take at d) (a ++ drop (at + length a) d) at (length-take-le at d h))

-- one text after another
pub paste_append : (d : List ℕ) (at to : ℕ) (a b : List ℕ) → to ≡ at + length a → to ≤ length d → pasted (pasted d at a) to b ≡ pasted d at (a ++ b)
unfolding pasted
paste_append d at to a b e h =
    let p = take at d ++ a in
    let n : length p ≡ to = omega (arith, length-append (take at d) a, length-take-le at d (omega arith)) in
    let m : to + length b ≡ at + length (a ++ b) = omega (arith, length-append a b) in
    let q : drop (to + length b) (p ++ drop (at + length a) d) ≡ drop (at + length (a ++ b)) d =
    rw (← drop-drop (length b) to (p ++ drop (at + length a) d), drop_at p (drop (at + length a) d) to n, drop-drop, ← e, m) in
    rw (take_at p (drop (at + length a) d) to n, q) (simp append_assoc)

pub then : (d a b : List ℕ) (at to : ℕ) {e f : List ℕ} → e ≡ pasted d at a → f ≡ pasted e to b → to ≡ at + length a → to ≤ length d → f ≡ pasted d at (a ++ b)
then d a b at to p q h l = q ∙ ap (λ (x : List ℕ). pasted x to b) p ∙ paste_append d at to a b h l

-- one byte, and a text after it
pub paste_cons : (d : List ℕ) (at c : ℕ) (b : List ℕ) → at < length d → pasted (set d at c) (at + 1) b ≡ pasted d at (c ∷ b)
unfolding pasted
paste_cons d at c b h =
    let e : at + 1 ≡ suc at = omega arith in
    let m : suc at + length b ≡ at + suc (length b) = omega arith in
    rw (e, take-suc-set d at c h, drop-set-lt (suc at + length b) d at c (omega arith), m) (simp append_assoc)

pub paste_one : (d : List ℕ) (at c : ℕ) → at < length d → set d at c ≡ pasted d at (c ∷ [])
paste_one d at c h = paste_none (set d at c) (at + 1) ∙ paste_cons d at c [] h

-- after `out[at..at + n].copy_from_slice(text)`
pub copied : (out text new : List ℕ) (at k : ℕ) → new ≡ text → k ≡ length text → put_mid at k out new ≡ pasted out at text
unfolding pasted
copied out text new at k e f = rw (e, f, drop-drop (length text) at out) (simp append_assoc)

-- ---- what a call stored, with room and without
module _ {text old new : List ℕ} {at : ℕ} where
  pub stored : {r : Bool} → at + length text ≤ length old → Stored text at old new r → (r ≡ true) × (new ≡ pasted old at text)
  stored h s = let e = le-leb (at + length text) (length old) h in (s.answer ∙ e, s.bytes ∙ cond_yes _ _ e)

  pub no_room : {r : Bool} → length old < at + length text → Stored text at old new r → (r ≡ false) × (new ≡ old)
  no_room h s = let e = lt-leb (at + length text) (length old) h in (s.answer ∙ e, s.bytes ∙ cond_no _ _ e)

  pub stores : at + length text ≤ length old → new ≡ pasted old at text → Stored text at old new true
  stores h p = let e = le-leb (at + length text) (length old) h in record { answer = sym e; bytes = p ∙ sym (cond_yes _ _ e) }

pub stays : (text old : List ℕ) (at : ℕ) → length old < at + length text → Stored text at old old false
stays text old at h = let e = lt-leb (at + length text) (length old) h in record { answer = sym e; bytes = sym (cond_no _ _ e) }
