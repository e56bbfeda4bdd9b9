-- Where fields begin: within the thirteen octets of the longest T-field.
use mathlib.Core.Path.{◌≡◌}
use mathlib.Core.Bool.{Bool, true, false, cond}
use mathlib.Core.List.{List, [], ◌∷◌, ◌++◌}
use Prim.Native.Nat.{ℕ, zero, suc, ◌+◌, ◌≤◌}
use native.Mathlib.Omega.{arith}
use Rattle.field.specs.Fields.{Field, first_bad}
use Rattle.place.specs.Binary.{segments_in}
use Rattle.std.specs.Prelude.{Some}

-- each of the fields begins at most at n
abbrev pub Low : ℕ → List Field → Type 0
Low n [] = Unit {0}
Low n (f ∷ fs) = (f.start ≤ n) × Low n fs

pub low_append : (n : ℕ) (fs gs : List Field) → Low n fs → Low n gs → Low n (fs ++ gs)
low_append n [] gs h k = k
low_append n (f ∷ fs) gs (h, i) k = (h, low_append n fs gs i k)

pub low_segments : (s : List ℕ) (at i n w : ℕ) → i + n ≤ w + 1 → Low w (segments_in s at i n)
low_segments s at i zero w h = tt
low_segments s at i (suc n) w h = (omega arith, low_segments s at (suc i) n w (omega arith))

pub place_low : (n : ℕ) (fs : List Field) (i : ℕ) → Low n fs → first_bad fs ≡ Some i → i ≤ n
place_low n [] i h e = absurd (let z : ◌≡◌ {A = ℕ} 0 1 = cc in let y : ⊥ = omega arith in y)
place_low n (f ∷ fs) i (h, k) e = go f.kept e (λ g. place_low n fs i k g)
  where
    go : (b : Bool) → cond b (first_bad fs) (Some f.start) ≡ Some i → (first_bad fs ≡ Some i → i ≤ n) → i ≤ n
    go true g more = more g
    go false g more = let z : f.start ≡ i = cc in omega arith
