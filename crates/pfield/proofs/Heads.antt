-- A P-field's head, and what goes on behind it, by where the field stands.
use mathlib.Core.Path.{◌≡◌, refl, sym, ap, ◌∙◌}
use mathlib.Core.Bool.{Bool, true, false}
use mathlib.Core.List.{List, ◌∷◌}
use Prim.Native.Nat.{ℕ, ◌≤◌}
use lib.Dec.{leb}
use lib.IntN.{ℤ}
use lib.ListN.{length, get_or}
use native.Mathlib.Omega.{arith}
use borrow.Author.Tests.{le-leb, leb-true}
use Rattle.base.specs.Outcome.{Outcome, done, refused, need, and_then, given}
use Rattle.base.proofs.Ladders.{need_yes, need_done, given_done}
use Rattle.pfield.specs.declared.PField.{PField}
use Rattle.pfield.specs.declared.Preamble.{Preamble}
use Rattle.pfield.specs.declared.Preamble.TheVariants.{Front, Given}
use Rattle.pfield.specs.declared.Codes.{Codes}
use Rattle.pfield.specs.declared.Layout.{Layout}
use Rattle.pfield.specs.PField.{laid, headed, octet, headed_of}
use Rattle.pfield.specs.declared.Head.{Head}

-- ---- a head, by where it stands
module _ (c : Codes) (e : ℤ) where
  pub head_given : (s : List ℕ) (p : PField) (l : Layout) → laid c p e ≡ done l → headed_of c s (Given p) e ≡ done (headed 0 l)
  unfolding headed_of
  head_given s p l h = ap (given (headed 0)) h

  pub head_octet : (o : ℕ) (s : List ℕ) (l : Layout) → laid c (octet o) e ≡ done l → headed_of c (o ∷ s) Front e ≡ done (headed 1 l)
  unfolding headed_of
  head_octet o s l h = need_yes 1 _ (le-leb 1 (length (o ∷ s)) (omega arith)) ∙ ap (given (headed 1)) h

  -- and what an answered one was made of
  pub given_head : (s : List ℕ) (p : PField) (h : Head) → headed_of c s (Given p) e ≡ done h → (laid c p e ≡ done h.layout) × (h.start ≡ 0)
  unfolding headed_of
  given_head s p h q =
      let (l, (a, b)) = given_done (headed 0) (laid c p e) h q in
      (a ∙ ap (λ (x : Head). done x.layout) b, sym (ap (λ (x : Head). x.start) b))

  pub octet_head : (s : List ℕ) (h : Head) → headed_of c s Front e ≡ done h → (1 ≤ length s) × (laid c (octet (get_or s 0 0)) e ≡ done h.layout) × (h.start ≡ 1)
  unfolding headed_of
  octet_head s h q =
      let (n, r) = need_done (leb 1 (length s)) 1 _ h q in
      let (l, (a, b)) = given_done (headed 1) (laid c (octet (get_or s 0 0)) e) h r in
      (leb-true 1 (length s) n, a ∙ ap (λ (x : Head). done x.layout) b, sym (ap (λ (x : Head). x.start) b))

  pub start_low : (s : List ℕ) (p : Preamble) (h : Head) → headed_of c s p e ≡ done h → h.start ≤ 1
  start_low s (Given p) h q = omega (arith, (given_head s p h q).1)
  start_low s Front h q = let (_, _, n) = octet_head s h q in omega (arith, n)

-- ---- what goes on behind one
module _ {A : Type 0} (k : Head → Outcome A) where
  then_given : (n : ℕ) (x : Outcome Layout) → and_then (given (headed n) x) k ≡ and_then x (λ l. k (headed n l))
  then_given n (done l) = refl
  then_given n (refused m) = refl

  then_needs : (b : Bool) (m n : ℕ) (x : Outcome Layout) → and_then (need b m (given (headed n) x)) k ≡ need b m (and_then x (λ l. k (headed n l)))
  then_needs true m n x = then_given n x
  then_needs false m n x = refl

  -- supplied apart, the T-field starts with the bytes
  pub head_apart : (c : Codes) (s : List ℕ) (p : PField) (e : ℤ) → and_then (headed_of c s (Given p) e) k ≡ and_then (laid c p e) (λ l. k (headed 0 l))
  unfolding headed_of
  head_apart c s p e = then_given 0 (laid c p e)

  -- from the front, it starts behind the octet
  pub head_front : (c : Codes) (s : List ℕ) (e : ℤ) → and_then (headed_of c s Front e) k ≡ need (leb 1 (length s)) 1 (and_then (laid c (octet (get_or s 0 0)) e) (λ l. k (headed 1 l)))
  unfolding headed_of
  head_front c s e = then_needs (leb 1 (length s)) 1 1 (laid c (octet (get_or s 0 0)) e)
