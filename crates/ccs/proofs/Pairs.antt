-- Runs of decimal pairs: two neighbouring fields are one run, read and written, over any widths.
use mathlib.Core.Path.{◌≡◌, refl, sym, ap, ◌∙◌}
use mathlib.Core.Bool.{Bool, true, false, cond, ◌&&◌}
use mathlib.Core.List.{List, ◌++◌}
use Prim.Native.Nat.{ℕ, ◌+◌, ◌*◌, ◌/◌, ◌%◌, ◌^◌, ◌<◌, ◌≤◌}
use native.Mathlib.Omega.{arith}
use borrow.Author.Tests.{le-leb}
use lib.Arith.{digits_div, digits_mod}
use lib.Dec.{lit<}
use lib.ListN.{length, take, drop}
use lib.Seq.{drop-drop}
use Rattle.base.specs.Outcome.{Outcome, done, need, and_then}
use Rattle.base.proofs.Once.{said_done}
use Rattle.octets.specs.Places.{all_good, bcd_value, bcd_element, bcd_good, bcd_of, bcd}
use Rattle.octets.specs.Counts.{count_of, bcd_at}
use Rattle.octets.proofs.Places.{number_split, good_split, places_append, number_lt, bcd_rule}
use Rattle.octets.proofs.Counts.{told, read_lt, read_text}
use Rattle.ccs.specs.Ccs.{pairs}
use Rattle.base.specs.Said.{said}
use Rattle.std.specs.Prelude.{Ok, Err}
use Rattle.base.specs.declared.Refusal.TheVariants.{Field}

-- ---- reading
says : (g : Bool) (n : ℕ) → said (cond g (Ok n) (Err Field)) ≡ need g 4 (done n)
says true n = refl
says false n = refl

-- where the octets are there, only a digit can be refused
plain : (s : List ℕ) (at w : ℕ) → w ≤ 9 → at + w ≤ length s → pairs s at w ≡ need (all_good bcd_good (drop at s) w) 4 (done (bcd_of (drop at s) w))
unfolding count_of
plain s at w h l = rw (le-leb w 9 h, le-leb (at + w) (length s) l) (says (all_good bcd_good (drop at s) w) (bcd_of (drop at s) w))

join : {B : Type 0} (g h : Bool) (a b c : ℕ) (K : ℕ → ℕ → Outcome B) → (h ≡ true → b < c) → and_then (need g 4 (done a)) (λ x. and_then (need h 4 (done b)) (λ y. K x y)) ≡ and_then (need (g && h) 4 (done (a * c + b))) (λ n. K (n / c) (n % c))
join true true a b c K f = rw (digits_div a (f refl), digits_mod a (f refl))
join true false a b c K f = refl
join false h a b c K f = refl

pub split : {B : Type 0} (s : List ℕ) (at to w k : ℕ) (K : ℕ → ℕ → Outcome B) → to ≡ at + w → w + k ≤ 9 → at + (w + k) ≤ length s → and_then (pairs s at w) (λ a. and_then (pairs s to k) (λ b. K a b)) ≡ and_then (pairs s at (w + k)) (λ n. K (n / 100 ^ k) (n % 100 ^ k))
split s at to w k K e h l =
    let d = drop at s in
    let q : drop to s ≡ drop w d = ap (λ (i : ℕ). drop i s) e ∙ sym (drop-drop w at s) in
    rw (plain s at w (omega arith) (omega arith), plain s to k (omega arith) (omega arith), plain s at (w + k) h l, q, good_split bcd_good d w k, number_split 100 bcd_value d w k)
    (join (all_good bcd_good d w) (all_good bcd_good (drop w d) k) (bcd_of d w) (bcd_of (drop w d) k) (100 ^ k) K (λ g. number_lt bcd_rule (drop w d) k g))

-- a number that was read fits its pairs, and they are those that write it
pub pair_read : (s : List ℕ) (at w n : ℕ) → bcd_at s at w ≡ Ok n → (n < 100 ^ w) × (take w (drop at s) ≡ bcd w n)
pair_read s at w n e = let r = told 100 bcd_value bcd_good 9 s at w (Ok n) e in (read_lt r bcd_rule, read_text r bcd_rule)

pub pair_told : (s : List ℕ) (at w n : ℕ) → pairs s at w ≡ done n → (n < 100 ^ w) × (take w (drop at s) ≡ bcd w n)
pair_told s at w n e = pair_read s at w n (said_done (bcd_at s at w) n e)

-- ---- writing
pub pairs_append : (w k a b : ℕ) → b < 100 ^ k → bcd (w + k) (a * 100 ^ k + b) ≡ bcd w a ++ bcd k b
pairs_append = places_append 100 bcd_element (lit< tt)
