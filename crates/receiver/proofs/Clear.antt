-- Zeros, all of them.
use mathlib.Core.Path.{◌≡◌, refl, ap}
use mathlib.Core.Bool.{true}
use mathlib.Core.List.{List, [], ◌∷◌}
use Prim.Native.Nat.{ℕ, zero, suc}
use lib.Dec.{eqb}
use lib.ListN.{length, replicate}
use borrow.Author.Tests.{eqb-true}
use Rattle.base.proofs.Bools.{and_true}
use Rattle.receiver.specs.Receiver.{all_zero}

-- zeros are so many zeros
pub zeros_are : (s : List ℕ) → all_zero s ≡ true → s ≡ replicate (length s) 0
zeros_are [] h = refl
zeros_are (x ∷ s) h =
    let (a, b) = and_true (eqb x 0) (all_zero s) h in
    let e : x ≡ 0 = eqb-true x 0 a in
    rw e (ap (λ (l : List ℕ). 0 ∷ l) (zeros_are s b))

pub zeros_all : (n : ℕ) → all_zero (replicate n 0) ≡ true
zeros_all zero = refl
zeros_all (suc n) = zeros_all n
