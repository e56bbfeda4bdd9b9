-- Numbers, fractions and times.
use mathlib.Core.Path.{◌≡◌, refl, sym, ap, ◌∙◌}
use mathlib.Core.Bool.{Bool, true, false, cond, ◌&&◌}
use mathlib.Core.List.{List, [], ◌∷◌}
use Prim.Native.Nat.{ℕ, ◌+◌, ◌-◌, ◌*◌, ◌/◌, ◌^◌, ◌<◌, ◌≤◌}
use native.Mathlib.Omega.{arith}
use borrow.Author.Tests.{le-leb, lt-leb}
use lib.Dec.{leb}
use lib.ListN.{length, take, drop}
use Rattle.base.specs.Outcome.{Outcome, done, refused, need, and_then, given}
use Rattle.base.proofs.Bools.{never_both, and_false, and_yes, cond_yes}
use Rattle.base.proofs.Ladders.{need_yes, need_no}
use Rattle.scale.specs.Time.{per_second}
use Rattle.octets.specs.Places.{all_good, digit_value, digit_good}
use Rattle.octets.specs.Counts.{count_of, decimal_at}
use Rattle.octets.proofs.Places.{digit_rule}
use Rattle.octets.proofs.Counts.{told, told_err, read_lt}
use Rattle.moment.specs.Decimal.{ticks_of}
use Rattle.ascii.specs.Ascii.{number_at}
use Rattle.scale.proofs.Fractions.{ticks_lt}
use Rattle.moment.proofs.Decimal.{grain}
use Rattle.tag.specs.Forms.{free, lowest, at, Form, Forms, find}
use Rattle.tag.specs.Tags.{fraction_as, until, Daytime, daytime, clock_as, unzoned, time_in}
use Rattle.std.specs.Prelude.{Result, Ok, Err, IsOk}
use Rattle.base.specs.Said.{said}
use Rattle.base.specs.Refusals.{number as refusal}
use Rattle.base.specs.declared.Refusal.{Refusal}
use Rattle.base.specs.declared.Refusal.TheVariants.{Field}

-- ---- numbers
module _ (s : List ℕ) (at w : ℕ) where
  pub number_done : (n : ℕ) → decimal_at s at w ≡ Ok n → n ≡ number_at s at w
  number_done n e = (told 10 digit_value digit_good 19 s at w (Ok n) e).is

  pub number_there : all_good digit_good (drop at s) w ≡ true → w ≤ 19 → at + w ≤ length s → IsOk (decimal_at s at w)
  number_there g h l = go (decimal_at s at w) refl
    where
      go : (r : Result ℕ Refusal) → decimal_at s at w ≡ r → IsOk r
      go (Ok n) e = refl
      go (Err why) e = never_both g (told_err 10 digit_value digit_good 19 s at w why h l e)

-- ---- fractions
-- nothing, and what is wrong with the number of digits
pub no_part : (s : List ℕ) → length s < 1 → done 0 ≡ fraction_as (at 0) s
no_part [] h = refl
no_part (b ∷ s) h = absurd (let z : ⊥ = omega arith in z)

pub part_digits : (s : List ℕ) (d : ℕ) → 1 ≤ length s → d ≡ length s - 1 → fraction_as (at 0) s ≡ need (leb 1 d && (leb d 12 && all_good digit_good (drop 1 s) d)) 4 (done (ticks_of d (number_at s 1 d)))
part_digits [] d h e = absurd (let z : ⊥ = omega arith in z)
part_digits (b ∷ s) d h e = let q : length s ≡ d = omega arith in rw q

module _ (s : List ℕ) (d : ℕ) (h : 1 ≤ length s) (e : d ≡ length s - 1) where
  -- what `octets::decimal` answers is handed on
  module _ (l : 1 ≤ d) (u : d ≤ 12) where
    pub part_read : given (λ n. n * (per_second / 10 ^ d)) (said (decimal_at s 1 d)) ≡ fraction_as (at 0) s
    unfolding count_of
    part_read = ap (λ (r : Result ℕ Refusal). given (λ n. n * (per_second / 10 ^ d)) (said r)) (cond_yes _ _ held) ∙ go (all_good digit_good (drop 1 s) d) refl
      where
        held : leb d 19 && leb (1 + d) (length s) ≡ true
        held = and_yes _ (le-leb d 19 (omega arith)) ∙ le-leb (1 + d) (length s) (omega arith)

        go : (g : Bool) → all_good digit_good (drop 1 s) d ≡ g → given (λ n. n * (per_second / 10 ^ d)) (said (cond g (Ok (number_at s 1 d)) (Err Field))) ≡ fraction_as (at 0) s
        go true q = sym (part_digits s d h e ∙ need_yes 4 _ (and_yes _ (le-leb 1 d l) ∙ and_yes _ (le-leb d 12 u) ∙ q))
        go false q = sym (part_digits s d h e ∙ need_no 4 _ (and_false (leb 1 d) _ (and_false (leb d 12) _ q)))

    pub part_lt : (n : ℕ) → decimal_at s 1 d ≡ Ok n → n * (per_second / 10 ^ d) < per_second
    part_lt n b = ticks_lt (grain d u) n (read_lt (told 10 digit_value digit_good 19 s 1 d (Ok n) b) digit_rule)

pub part_err : (s : List ℕ) (why : Refusal) → 1 ≤ length s - 1 → length s - 1 ≤ 12 → decimal_at s 1 (length s - 1) ≡ Err why → refused (refusal why) ≡ fraction_as (at 0) s
part_err s why l u b =
    let d = length s - 1 in
    ap (λ (r : Result ℕ Refusal). given (λ n. n * (per_second / 10 ^ d)) (said r)) (sym b) ∙ part_read s d (omega arith) refl l u

pub part_ok : (s : List ℕ) (n p : ℕ) → 1 ≤ length s - 1 → length s - 1 ≤ 12 → decimal_at s 1 (length s - 1) ≡ Ok n → p ≡ per_second / 10 ^ (length s - 1) → done (n * p) ≡ fraction_as (at 0) s
part_ok s n p l u b e =
    let d = length s - 1 in
    rw e (ap (λ (r : Result ℕ Refusal). given (λ n. n * (per_second / 10 ^ d)) (said r)) (sym b) ∙ part_read s d (omega arith) refl l u)

-- nothing after "::", something after hh or mm, and what is taken after any other form
pub part_missing : (s : List ℕ) → length s ≡ 0 → refused 4 ≡ fraction_as free s
part_missing [] h = refl
part_missing (b ∷ s) h = absurd (omega arith)

pub part_behind : (s : List ℕ) → (length s ≡ 0 → ⊥) → refused 4 ≡ fraction_as lowest s
part_behind [] h = absurd (h refl)
part_behind (b ∷ s) h = refl

pub part_free : (s : List ℕ) → (length s ≡ 0 → ⊥) → fraction_as (at 0) s ≡ fraction_as free s
part_free [] h = absurd (h refl)
part_free (b ∷ s) h = refl

pub part_lowest : (s : List ℕ) → length s ≡ 0 → fraction_as (at 0) s ≡ fraction_as lowest s
part_lowest [] h = refl
part_lowest (b ∷ s) h = absurd (omega arith)

pub part_at : (s : List ℕ) (n : ℕ) → fraction_as (at 0) s ≡ fraction_as (at n) s
part_at [] n = refl
part_at (b ∷ s) n = refl

-- ---- times
module _ (fs : Forms) (s : List ℕ) (p : ℕ) (e : p ≡ until 46 s) where
  abbrev parted : ℕ → Outcome Daytime
  parted q = and_then (find fs (take q s)) (λ f. given (daytime (clock_as (take q s) f)) (fraction_as f.third (drop q s)))

  unzoned_at : unzoned fs s ≡ parted p
  unfolding unzoned
  unzoned_at = ap parted (sym e)

  pub unzoned_none : find fs (take p s) ≡ refused 4 → refused 4 ≡ unzoned fs s
  unzoned_none f = sym (unzoned_at ∙ rw f)

  module _ (g : Form) (f : find fs (take p s) ≡ done g) where
    pub unzoned_bad : (n : ℕ) → fraction_as g.third (drop p s) ≡ refused n → refused n ≡ unzoned fs s
    unzoned_bad n k = sym (unzoned_at ∙ rw f (ap (given (daytime (clock_as (take p s) g))) k))

    pub unzoned_done : (n : ℕ) → fraction_as g.third (drop p s) ≡ done n → done (daytime (clock_as (take p s) g) n) ≡ unzoned fs s
    unzoned_done n k = sym (unzoned_at ∙ rw f (ap (given (daytime (clock_as (take p s) g))) k))

module _ (fs : Forms) (s : List ℕ) (z : ℕ) (e : z ≡ until 90 s) where
  abbrev zoned : ℕ → Outcome Daytime
  zoned q = need (leb (length s) (q + 1)) 4 (unzoned fs (take q s))

  time_at : time_in fs s ≡ zoned z
  unfolding time_in
  time_at = ap zoned (sym e)

  pub time_behind : z + 1 < length s → refused 4 ≡ time_in fs s
  time_behind h = sym (time_at ∙ need_no 4 _ (lt-leb (length s) (z + 1) h))

  pub time_whole : length s ≤ z + 1 → unzoned fs (take z s) ≡ time_in fs s
  time_whole h = sym (time_at ∙ need_yes 4 _ (le-leb (length s) (z + 1) h))
