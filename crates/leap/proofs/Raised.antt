-- Signed numbers raised and lowered, and what the built-in cover's ends say of them.
use Prim.Native.Nat.{ℕ}
use mathlib.Core.Path.{◌≡◌, refl, ap, ◌∙◌}
use mathlib.Core.Bool.{Bool, true, false}
use native.Mathlib.Omega.{arith}
use lib.IntN.{ℤ, pos, neg_ℤ, nat_abs, ◌+ℤ◌}
use lib.Signed.{le_z}
use Rattle.base.specs.Parts.{plus, minus, At, lowered_by}
use Rattle.base.specs.Outcome.{Outcome, done, refused, and_then}
use Rattle.base.proofs.Ladders.{need_yes, need_done, done_is}
use Rattle.base.proofs.Signed.{lower_is, sum, apart, abs_is, neg_plus, neg_minus, le_so, le_yes}
use Rattle.leap.specs.Utc.{lifted_by}

module _ (B : ℕ) where
  abs_at : (n : ℕ) (z : ℤ) → At B n z → nat_abs (z +ℤ pos B) ≡ n
  abs_at n z e = abs_is (z +ℤ pos B) ∙ omega (arith, sum z (pos B), apart (z +ℤ pos B))

  pub raise_at : (n : ℕ) (z : ℤ) → At B n z → lifted_by B z ≡ done n
  unfolding lifted_by
  raise_at n z e =
      need_yes 5 _ (le_so (neg_ℤ (pos B)) z (omega (arith, neg_plus (pos B), neg_minus (pos B)))) ∙ ap done (abs_at n z e)

  pub raise_lowered : (n : ℕ) (z : ℤ) → lowered_by B n ≡ z → lifted_by B z ≡ done n
  raise_lowered n z e = raise_at n z (omega (arith, ap plus e, ap minus e, lower_is B n))

  -- and back: what was raised stands for it
  pub raise_is : (n : ℕ) (z : ℤ) → lifted_by B z ≡ done n → At B n z
  unfolding lifted_by
  raise_is n z e =
      let (b, d) = need_done (le_z (neg_ℤ (pos B)) z) 5 (done (nat_abs (z +ℤ pos B))) n e in
      let h = le_yes (neg_ℤ (pos B)) z b in
      omega (arith, h, done_is _ n d, neg_plus (pos B), neg_minus (pos B), abs_is (z +ℤ pos B), sum z (pos B), apart (z +ℤ pos B))

  raise_by : {A : Type 0} (z : ℤ) (k : ℕ → Outcome A) → ((n : ℕ) → At B n z → k n ≡ refused 5) → (b : Bool) → le_z (neg_ℤ (pos B)) z ≡ b → and_then (lifted_by B z) k ≡ refused 5
  unfolding lifted_by
  raise_by z k f true e =
      let h = le_yes (neg_ℤ (pos B)) z e in
      let n : At B (nat_abs (z +ℤ pos B)) z = omega (arith, h, neg_plus (pos B), neg_minus (pos B), abs_is (z +ℤ pos B), sum z (pos B), apart (z +ℤ pos B)) in
      rw e (f (nat_abs (z +ℤ pos B)) n)
  raise_by z k f false e = rw e

  -- refused 5 where it is so at each raised number
  pub raise_out : {A : Type 0} (z : ℤ) (k : ℕ → Outcome A) → ((n : ℕ) → At B n z → k n ≡ refused 5) → and_then (lifted_by B z) k ≡ refused 5
  raise_out z k f = raise_by z k f _ refl
