-- A T-field that was stored from 1 on, and its P octet stored before it.
use mathlib.Core.Path.{◌≡◌, sym, ap, ◌∙◌}
use mathlib.Core.Bool.{Bool, true, false}
use mathlib.Core.List.{List, [], ◌∷◌}
use Prim.Native.Nat.{ℕ, ◌+◌, ◌<◌, ◌≤◌}
use native.Mathlib.Nat.{zero-add}
use native.Mathlib.Numerals.{one-add}
use native.Mathlib.Omega.{arith}
use borrow.Author.Tests.{leb-true}
use lib.ListN.{length, set}
use Rattle.base.specs.Outcome.{Outcome, done, refused, need, and_then, given}
use Rattle.base.specs.Refusals.{number}
use Rattle.base.specs.declared.Refusal.{Refusal}
use Rattle.base.proofs.Ladders.{never, need_done, then_done, given_done, done_is, refused_is}
use Rattle.octets.specs.Stores.{pasted, has_room}
use Rattle.octets.specs.Writes.{roomed, end_of, filled, Wrote}
use Rattle.octets.proofs.Pastes.{length_pasted}
use Rattle.octets.proofs.Writes.{refuses, fills, room_in}
use Rattle.pfield.specs.declared.PField.{PField}
use Rattle.codes.specs.Writing.{code_of, fronted}
use Rattle.std.specs.Prelude.{Ok, Err}

-- the room that a code needs is the same, counted from its T-field or from its P octet
same_room : (d t : List ℕ) (p : PField) → need (has_room d 1 t) 8 (done (code_of true p t)) ≡ roomed d 0 (code_of true p t)
unfolding roomed
same_room d t p = rw (zero-add, one-add)

-- a refusal stays one
given_refused : {A B : Type 0} (f : A → B) (x : Outcome A) (n : ℕ) → refused n ≡ given f x → x ≡ refused n
given_refused f (done a) n h = never n (f a) h
given_refused f (refused m) n h = ap refused (refused_is m n (sym h))

front_refused : (x : Outcome (List ℕ)) (d : List ℕ) (p : PField) (n : ℕ) → and_then x (roomed d 1) ≡ refused n → and_then x (fronted true p d) ≡ refused n
unfolding roomed
front_refused (refused m) d p n h = ap refused (refused_is m n h)
front_refused (done t) d p n h = sym (same_room d t p) ∙ go (has_room d 1 t) h
  where
    go : (b : Bool) → need b 8 (done t) ≡ refused n → need b 8 (done (code_of true p t)) ≡ refused n
    go true q = never n t (sym q)
    go false q = ap refused (refused_is 8 n q)

filled_refused : (x : Outcome (List ℕ)) (at n : ℕ) (d new : List ℕ) → x ≡ refused n → new ≡ filled at x d → new ≡ d
filled_refused x at n d new h e = rw h at e

pub fronts_refused : (x : Outcome (List ℕ)) (p : PField) (d new : List ℕ) (why : Refusal) → Wrote (and_then x (roomed d 1)) 1 d new (Err why) → Wrote (and_then x (fronted true p d)) 0 d new (Err why)
fronts_refused x p d new why w =
    let h = given_refused (end_of 1) (and_then x (roomed d 1)) (number why) w.answer in
    let e : new ≡ d = filled_refused (and_then x (roomed d 1)) 1 (number why) d new h w.bytes in
    rw e (refuses why (and_then x (fronted true p d)) 0 d (front_refused x d p (number why) h))

-- a stored T-field has room before it, and the P octet makes it a code
set_front : (d t : List ℕ) (p : PField) → 0 < length d → set (pasted d 1 t) 0 p.octet ≡ pasted d 0 (p.octet ∷ t)
unfolding pasted
set_front [] t p h = absurd (omega arith)
set_front (y ∷ d) t p h = rw (zero-add, one-add)

record Fronted (x : Outcome (List ℕ)) (d new : List ℕ) (n : ℕ) : Type 0 where
  field : List ℕ
  is : x ≡ done field
  room : 1 + length field ≤ length d
  ends : n ≡ 1 + length field
  bytes : new ≡ pasted d 1 field

fronted_of : (x : Outcome (List ℕ)) (d new : List ℕ) (n : ℕ) → Wrote (and_then x (roomed d 1)) 1 d new (Ok n) → Fronted x d new n
unfolding roomed
fronted_of x d new n w =
    let (t, (h, i)) = given_done (end_of 1) (and_then x (roomed d 1)) n (sym w.answer) in
    let (u, (p, q)) = then_done x (roomed d 1) t h in
    let (r, e) = need_done (has_room d 1 u) 8 (done u) t q in
    let s : u ≡ t = done_is u t e in
    record {
      field = t;
      is = p ∙ ap done s;
      room = leb-true (1 + length t) (length d) (rw s at r);
      ends = sym i;
      bytes = rw h at w.bytes;
    }

pub fronts_long : (x : Outcome (List ℕ)) (d new : List ℕ) (n : ℕ) → Wrote (and_then x (roomed d 1)) 1 d new (Ok n) → 0 < length new
fronts_long x d new n w =
    let f = fronted_of x d new n w in
    let r = f.room in
    rw (f.bytes, length_pasted d 1 f.field r) (omega arith)

pub fronts_done : (x : Outcome (List ℕ)) (p : PField) (d new : List ℕ) (n : ℕ) → Wrote (and_then x (roomed d 1)) 1 d new (Ok n) → Wrote (and_then x (fronted true p d)) 0 d (set new 0 p.octet) (Ok n)
fronts_done x p d new n w =
    let f = fronted_of x d new n w in
    let t = f.field in
    let r = f.room in
    fills (p.octet ∷ t) (and_then x (fronted true p d)) 0 n d (set new 0 p.octet)
    (ap (λ (y : Outcome (List ℕ)). and_then y (fronted true p d)) f.is ∙ room_in (p.octet ∷ t) 0 d (omega arith))
    (omega (arith, f.ends))
    (ap (λ (l : List ℕ). set l 0 p.octet) f.bytes ∙ set_front d t p (omega arith))
