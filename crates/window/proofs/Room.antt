-- A list written into lent memory, one element at a time: laws over any element type.
use mathlib.Core.Bool.{Bool, true, false}
use mathlib.Core.List.{List, [], ◌∷◌, ◌++◌, append_assoc}
use mathlib.Core.Path.{◌≡◌, refl, sym, ◌∙◌, ap, ap₂}
use Prim.Native.Nat.{ℕ, suc, ◌+◌, ◌≤◌, ◌<◌, min}
use native.Mathlib.Numerals.{add-one}
use native.Mathlib.Omega.{arith}
use lib.Dec.{ltb}
use lib.ListN.{length, take, drop, set, length-append, length-set, take-append-drop}
use lib.Seq.{length-take-le, take-suc-set, drop-set-lt, drop-drop, take_at}
use borrow.Author.Tests.{lt-ltb, le-ltb}
use Rattle.base.specs.Outcome.{done, refused}
use Rattle.base.specs.Refusals.{number}
use Rattle.base.specs.declared.Refusal.{Refusal}
use Rattle.base.specs.Outcome.{Outcome}
use Rattle.window.specs.Window.{Named, listed, list_filled, Lists}
use Rattle.std.specs.Prelude.{Ok, Err}

module _ {A : Type 0} where
  -- n elements of all are written, and rest is what is left of it; behind them the memory is as it was
  pub record Filling (all rest : List A) (n : ℕ) (entry out : List A) : Type 0 where
    pub roomy : n ≤ length entry
    pub same : length out ≡ length entry
    pub cut : take n out ++ rest ≡ all
    pub kept : drop n out ≡ drop n entry

  pub fill_start : {all left : List A} (entry : List A) → left ≡ all → Filling all left 0 entry entry
  fill_start entry e = record { roomy = omega arith; same = refl; cut = e; kept = refl }

  pub fill_more : {all rest : List A} {n : ℕ} {entry out : List A} {left : List A} (x : A) → left ≡ x ∷ rest → n < length entry → Filling all left n entry out → Filling all rest (n + 1) entry (set out n x)
  fill_more {all} {rest} {n} {entry} {out} x e h f =
      let g : n < length out = omega (arith, f.same) in
      record {
        roomy = omega arith;
        same = length-set out n x ∙ f.same;
        cut =
            rw (add-one n, take-suc-set out n x, append_assoc) (ap (λ (l : List A). take n out ++ l) (sym e) ∙ f.cut);
        kept =
            drop-set-lt (n + 1) out n x (omega arith)
            ∙ (sym (drop-drop 1 n out) ∙ (ap (drop 1) f.kept ∙ drop-drop 1 n entry));
      }

  length_cut : {all rest : List A} {n : ℕ} {entry out : List A} → Filling all rest n entry out → length all ≡ n + length rest
  length_cut {all} {rest} {n} {entry} {out} f =
      let g : n ≤ length out = omega (arith, f.same, f.roomy) in
      ap length (sym f.cut) ∙ (length-append (take n out) rest ∙ ap (λ (k : ℕ). k + length rest) (length-take-le n out g))

  -- what is written is all's first n, so the memory is all's first n and the rest of what it was
  memory_is : {all rest : List A} {n : ℕ} {entry out : List A} → Filling all rest n entry out → min (length entry) (length all) ≡ n → out ≡ list_filled all entry
  unfolding list_filled
  memory_is {all} {rest} {n} {entry} {out} f e =
      let g : n ≤ length out = omega (arith, f.same, f.roomy) in
      rw e
      (sym (take-append-drop n out)
      ∙ ap₂ (λ (s t : List A). s ++ t)
      (sym (take_at (take n out) rest n (length-take-le n out g)) ∙ ap (take n) f.cut) f.kept)

  -- the room is full, and there is one more
  pub fill_full : {all rest : List A} {n : ℕ} {entry out : List A} {left : List A} (x : A) → left ≡ x ∷ rest → length entry ≤ n → Filling all left n entry out → (k : ℕ) → Lists (done (record { ticks = k; all = all })) entry out (Ok (record { ticks = k; count = n; more = true }))
  unfolding listed
  fill_full {all} {rest} {n} {entry} {out} x e h f k =
      let l : length all ≡ n + suc (length rest) = length_cut f ∙ ap (λ (k : List A). n + length k) e in
      let m : min (length entry) (length all) ≡ n = omega (arith, f.roomy) in
      let t : ltb (length entry) (length all) ≡ true = lt-ltb (length entry) (length all) (omega (arith, f.roomy)) in
      record { outcome = ap₂ (λ (c : ℕ) (b : Bool). done (record { ticks = k; count = c; more = b })) (sym m) (sym t); memory = memory_is f m }

  -- nothing is left
  pub fill_done : {all : List A} {n : ℕ} {entry out : List A} {left : List A} → left ≡ [] → Filling all left n entry out → (k : ℕ) → Lists (done (record { ticks = k; all = all })) entry out (Ok (record { ticks = k; count = n; more = false }))
  unfolding listed
  fill_done {all} {n} {entry} {out} e f k =
      let l : length all ≡ n + 0 = length_cut f ∙ ap (λ (k : List A). n + length k) e in
      let m : min (length entry) (length all) ≡ n = omega (arith, f.roomy) in
      let t : ltb (length entry) (length all) ≡ false = le-ltb (length entry) (length all) (omega (arith, f.roomy)) in
      record { outcome = ap₂ (λ (c : ℕ) (b : Bool). done (record { ticks = k; count = c; more = b })) (sym m) (sym t); memory = memory_is f m }

  -- refused, and nothing changed
  pub lists_refused : (why : Refusal) (x : Outcome (Named A)) (entry : List A) → x ≡ refused (number why) → Lists x entry entry (Err why)
  lists_refused why x entry h = record { outcome = rw h; memory = rw h }
