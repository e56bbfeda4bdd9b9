-- The bytes of a held line: a text with zeros after its end, made byte by byte.
use mathlib.Core.Path.{◌≡◌, refl, sym, ap, ◌∙◌}
use mathlib.Core.List.{List, [], ◌∷◌, ◌++◌, append_assoc}
use Prim.Native.Nat.{ℕ, zero, suc, ◌+◌, ◌-◌, ◌≤◌, min}
use native.Mathlib.Omega.{arith}
use lib.ListN.{length, take, drop, length-append, length-take}
use lib.Seq.{take-append-add, take_at, drop_at, drop-drop}
use Rattle.std.proofs.lemmas.List.{take_min}
use borrow.Rule.Slice.PartMut.{put_mid}
use Rattle.lines.specs.Split.{kept}
use Rattle.lines.specs.Says.{fill, line_of}

-- a text over as many zeros
pub over_zeros : (n : ℕ) (q : List ℕ) → length q ≤ n → q ++ drop (length q) (fill n []) ≡ fill n q
over_zeros zero [] h = refl
over_zeros zero (b ∷ q) h = absurd (omega arith)
over_zeros (suc n) [] h = refl
over_zeros (suc n) (b ∷ q) h = ap (λ (l : List ℕ). b ∷ l) (over_zeros n q (omega arith))

pub length_fill : (n : ℕ) (q : List ℕ) → length (fill n q) ≡ n
length_fill zero q = refl
length_fill (suc n) [] = ap suc (length_fill n [])
length_fill (suc n) (b ∷ q) = ap suc (length_fill n q)

-- the text again
pub take_fill : (n : ℕ) (q : List ℕ) → length q ≤ n → take (length q) (fill n q) ≡ q
take_fill zero [] h = refl
take_fill zero (b ∷ q) h = absurd (omega arith)
take_fill (suc n) [] h = refl
take_fill (suc n) (b ∷ q) h = ap (λ (l : List ℕ). b ∷ l) (take_fill n q (omega arith))

-- what stands past the bytes that are filled does not matter
pub fill_take : (n : ℕ) (q : List ℕ) → fill n (take n q) ≡ fill n q
fill_take zero q = refl
fill_take (suc n) [] = refl
fill_take (suc n) (b ∷ q) = ap (λ (l : List ℕ). b ∷ l) (fill_take n q)

-- a text copied behind another, over what stood there
copied_behind : (n k : ℕ) (z p b : List ℕ) → length p ≡ n → length b ≡ k → put_mid n k (p ++ drop n z) b ≡ (p ++ b) ++ drop (length (p ++ b)) z
copied_behind n k z p b h l =
    rw (take_at p (drop n z) n h, drop_at p (drop n z) n h, drop-drop k n z) (let f : n + k ≡ length (p ++ b) = omega (arith, length-append p b) in rw f (simp append_assoc))

-- the line that is made: a text and a part behind it, copied over zeros
pub joins : (p part a b : List ℕ) (n more k : ℕ) → a ≡ p → b ≡ take more part → length p ≡ n → n ≤ 65 → more ≡ min (length part) (65 - n) → k ≡ more
    → record { bytes = put_mid n k (a ++ drop n (fill 65 [])) b; len = n + more } ≡ line_of (kept (p ++ part))
joins p part a b n more k e f h i m l =
    let q = p ++ take more part in
    let j : more ≡ min (65 - n) (length part) = omega arith in
    let t : take more part ≡ take (65 - n) part = ap (λ (x : ℕ). take x part) j ∙ take_min (65 - n) part in
    let z : 65 ≡ length p + (65 - n) = omega arith in
    let c : kept (p ++ part) ≡ q = ap (λ (x : ℕ). take x (p ++ part)) z ∙ take-append-add p part (65 - n) ∙ ap (λ (x : List ℕ). p ++ x) (sym t) in
    let w : length (take more part) ≡ more = omega (arith, length-take more part) in
    let s : length q ≡ n + more = omega (arith, length-append p (take more part)) in
    let bytes : put_mid n k (a ++ drop n (fill 65 [])) b ≡ fill 65 q = rw (e, f) (copied_behind n k (fill 65 []) p (take more part) h (w ∙ sym l) ∙ over_zeros 65 q (omega arith)) in
    rw (c, bytes, s)
