-- The segments of a fraction: a pair of digits that can be read is below 100, so that the first bad segment is the first that cannot.
use mathlib.Core.Path.{◌≡◌, refl, sym, ap, ◌∙◌}
use mathlib.Core.Bool.{Bool, true, false, not}
use mathlib.Core.List.{List}
use Prim.Native.Nat.{ℕ, zero, suc, ◌+◌, ◌<◌, ◌≤◌}
use native.Mathlib.Omega.{arith}
use borrow.Author.Tests.{leb-true, leb-false, lt-ltb}
use lib.Dec.{leb, ltb}
use Rattle.std.specs.Prelude.{Result, Option, Ok, Err, Some, None, MatchOption, is_err}
use Rattle.base.specs.declared.Refusal.{Refusal}
use Rattle.octets.specs.Places.{bcd_value, bcd_good}
use Rattle.octets.specs.Counts.{bcd_at}
use Rattle.octets.proofs.Counts.{told, read_lt}
use Rattle.octets.proofs.Places.{bcd_rule}
use Rattle.field.specs.Fields.{first_bad}
use Rattle.place.specs.Binary.{kept, segments_in}

module _ (s : List ℕ) (at : ℕ) where
  abbrev pub bad : ℕ → Bool
  bad i = is_err (bcd_at s (at + i) 1)

  pair : (i : ℕ) → kept (bcd_at s (at + i) 1) (λ d. ltb d 100) ≡ not (bad i)
  pair i = go (bcd_at s (at + i) 1) refl
    where
      go : (r : Result ℕ Refusal) → bcd_at s (at + i) 1 ≡ r → kept r (λ d. ltb d 100) ≡ not (is_err r)
      go (Ok n) e = lt-ltb n 100 (read_lt (told 100 bcd_value bcd_good 9 s (at + i) 1 (Ok n) e) bcd_rule)
      go (Err why) e = refl

  -- what `find` tells
  abbrev pub First : ℕ → ℕ → Option ℕ → Type 0
  First i n r = MatchOption r ((k : ℕ) → i ≤ k → k < i + n → bad k ≡ false) (λ j. (i ≤ j) × (j < i + n) × (bad j ≡ true) × ((k : ℕ) → i ≤ k → k < j → bad k ≡ false))

  skips : (i n : ℕ) → bad i ≡ false → first_bad (segments_in s at (suc i) n) ≡ first_bad (segments_in s at i (suc n))
  skips i n e = rw (pair i, e)

  pub first_segment : (n i : ℕ) (r : Option ℕ) → First i n r → r ≡ first_bad (segments_in s at i n)
  first_segment zero i None h = refl
  first_segment zero i (Some j) (l, m, _, _) = absurd (omega arith)
  first_segment (suc n) i None h = first_segment n (suc i) None (λ k l m. h k (omega arith) (omega arith)) ∙ skips i n (h i (omega arith) (omega arith))
  first_segment (suc n) i (Some j) (l, m, e, f) = go (leb (suc i) j) refl (λ h. first_segment n (suc i) (Some j) (h, omega arith, e, λ k a b. f k (omega arith) b))
    where
      go : (t : Bool) → leb (suc i) j ≡ t → (suc i ≤ j → Some j ≡ first_bad (segments_in s at (suc i) n)) → Some j ≡ first_bad (segments_in s at i (suc n))
      go true q more = let h = leb-true (suc i) j q in more h ∙ skips i n (f i (omega arith) h)
      go false q more = let h : j ≡ i = omega (arith, leb-false (suc i) j q) in rw (pair i, ap bad (sym h) ∙ e, h)
