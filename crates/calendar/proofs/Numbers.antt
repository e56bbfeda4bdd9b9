-- The index with a day number and the day number with an index are inverse over all the days.
use Prim.Native.Nat.{ℕ, ◌≤◌}
use mathlib.Core.Path.{◌≡◌, refl, sym, ap, ◌∙◌}
use mathlib.Core.Bool.{Bool, true, false, cond}
use native.Mathlib.Omega.{arith}
use lib.IntN.{ℤ, pos, negsuc, nat_abs, ◌+ℤ◌}
use Rattle.std.specs.Prelude.{Some, None}
use Rattle.std.specs.Option.{ok_or}
use Rattle.base.specs.declared.Refusal.TheVariants.{Range}
use Rattle.base.specs.Outcome.{Outcome, done, need, and_then, given}
use Rattle.base.specs.Said.{said}
use Rattle.base.specs.Seats.{seat_of}
use Rattle.base.specs.Parts.{At, within}
use Rattle.base.proofs.Ladders.{need_yes, need_done, then_done, given_done, done_is}
use Rattle.base.proofs.Signed.{same, less, sum, apart, abs_is, within_low, within_yes}
use Rattle.calendar.specs.Gregorian.{from_epoch, index_of_day}

pub number_at_lem : (n : ℕ) → At 714779 n (from_epoch n)
number_at_lem n = omega (arith, less n 714779)

pub index_at : (n : ℕ) (z : ℤ) → At 714779 n z → n ≤ 3652058 → index_of_day z ≡ done n
unfolding index_of_day
index_at n z e h =
    need_yes 7 _ (within_yes (negsuc 714778) (pos 2937279) z (omega arith) (omega arith))
    ∙ ap done (rw abs_is (omega (arith, sum z (pos 714779), apart (z +ℤ pos 714779))))

-- as the code has it
pub seat_said : (z : ℤ) → said (ok_or (seat_of (negsuc 714778) (pos 2937279) z) Range) ≡ index_of_day z
unfolding seat_of index_of_day
seat_said z = go (within (negsuc 714778) (pos 2937279) z)
  where
    go : (b : Bool) → said (ok_or (cond b (Some (nat_abs (z +ℤ pos 714779))) None) Range) ≡ need b 7 (done (nat_abs (z +ℤ pos 714779)))
    go true = refl
    go false = refl

pub index_of_number : (n : ℕ) → n ≤ 3652058 → index_of_day (from_epoch n) ≡ done n
index_of_number n h = index_at n (from_epoch n) (number_at_lem n) h

pub number_of_index : (z : ℤ) (n : ℕ) → index_of_day z ≡ done n → from_epoch n ≡ z
unfolding index_of_day
number_of_index z n h =
    let (e, f) = need_done (within (negsuc 714778) (pos 2937279) z) 7 (done (nat_abs (z +ℤ pos 714779))) n h in
    let i : nat_abs (z +ℤ pos 714779) ≡ n = done_is _ _ f in
    same (from_epoch n) z (omega (arith, number_at_lem n, abs_is (z +ℤ pos 714779), sum z (pos 714779), apart (z +ℤ pos 714779), within_low (negsuc 714778) (pos 2937279) z e))

-- ---- so what is inverse on indices is inverse on day numbers
module _ {A : Type 0} (index : A → Outcome ℕ) (day : ℕ → Outcome A) where
  pub day_back : ((a : A) (n : ℕ) → index a ≡ done n → (n ≤ 3652058) × (day n ≡ done a)) → (a : A) (z : ℤ) → given from_epoch (index a) ≡ done z → and_then (index_of_day z) day ≡ done a
  day_back f a z h =
      let (n, (p, q)) = given_done from_epoch (index a) z h in
      ap (λ (x : Outcome ℕ). and_then x day) (ap index_of_day (sym q) ∙ index_of_number n (f a n p).0) ∙ (f a n p).1

  pub back_day : ((n : ℕ) (a : A) → day n ≡ done a → index a ≡ done n) → (z : ℤ) (a : A) → and_then (index_of_day z) day ≡ done a → given from_epoch (index a) ≡ done z
  back_day f z a h =
      let (n, (p, q)) = then_done (index_of_day z) day a h in
      ap (given from_epoch) (f n a q) ∙ ap done (number_of_index z n p)
