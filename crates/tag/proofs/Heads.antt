-- A time, taken apart: its head, its fraction and Z.
use mathlib.Core.Path.{◌≡◌, refl, sym, ap, ◌∙◌}
use mathlib.Core.Bool.{Bool, true, false}
use mathlib.Core.List.{List, [], ◌∷◌, ◌++◌, append_assoc, append-nil}
use Prim.Native.Nat.{ℕ, suc, ◌+◌, ◌≤◌}
use native.Mathlib.Omega.{arith}
use lib.Dec.{eqb, leb}
use lib.ListN.{length, take, drop, length-append}
use lib.Seq.{take_at, drop_at}
use borrow.Author.Tests.{le-leb}
use Rattle.base.specs.Outcome.{done, need, and_then, given}
use Rattle.base.proofs.Ladders.{need_yes}
use Rattle.octets.specs.Places.{all_good, digit_good}
use Rattle.ascii.specs.Ascii.{zone_text}
use Rattle.shape.proofs.Shapes.{zeros, good_shape}
use Rattle.ascii.proofs.Sizes.{bit_le, zone_length}
use Rattle.tag.specs.Forms.{Form, Forms, find}
use Rattle.tag.specs.Tags.{until, daytime, clock_as, fraction_as, unzoned, time_in}
use Rattle.tag.proofs.Scans.{until_shape, until_zeros, until_past}

-- what may follow a time's head: nothing, or a period and digits
pub data Tail : List ℕ → Type 0 where
  none : Tail []
  part : (ds : List ℕ) → all_good digit_good ds (length ds) ≡ true → Tail (46 ∷ ds)

digits_plain : (c : ℕ) → digit_good c ≡ false → eqb 48 c ≡ false → (ds : List ℕ) → all_good digit_good ds (length ds) ≡ true → until c ds ≡ length ds
digits_plain c n e ds g =
    sym (until_shape c n ds)
    ∙ ap (until c) (good_shape ds g ∙ sym (append-nil (zeros (length ds))))
    ∙ (let h : until c (zeros (length ds) ++ []) ≡ length ds + 0 = until_zeros c (length ds) e [] in omega arith)

pub tail_plain : (c : ℕ) → digit_good c ≡ false → eqb 48 c ≡ false → eqb 46 c ≡ false → {t : List ℕ} → Tail t → until c t ≡ length t
tail_plain c n e f none = refl
tail_plain c n e f (part ds g) = rw f (ap suc (digits_plain c n e ds g))

tail_period : {t : List ℕ} → Tail t → until 46 t ≡ 0
tail_period none = refl
tail_period (part ds g) = refl

zone_until : (z : Bool) → until 90 (zone_text z) ≡ 0
zone_until true = refl
zone_until false = refl

module _ (fs : Forms) (f : Form) (head tail : List ℕ) (z : Bool) (t : Tail tail) (p : until 90 head ≡ length head) (q : until 46 head ≡ length head) (g : find fs head ≡ done f) where
  abbrev whole : List ℕ
  whole = head ++ (tail ++ zone_text z)

  body_ends : until 90 whole ≡ length (head ++ tail)
  body_ends =
      until_past 90 head (tail ++ zone_text z) p
      ∙ ap (λ (n : ℕ). length head + n) (until_past 90 tail (zone_text z) (tail_plain 90 refl refl refl t))
      ∙ omega (arith, zone_until z, length-append head tail)

  head_ends : until 46 (head ++ tail) ≡ length head
  head_ends = until_past 46 head tail q ∙ omega (arith, tail_period t)

  unzoned_told : unzoned fs (head ++ tail) ≡ given (daytime (clock_as head f)) (fraction_as f.third tail)
  unfolding unzoned
  unzoned_told =
      ap (λ (n : ℕ). and_then (find fs (take n (head ++ tail))) (λ f. given (daytime (clock_as (take n (head ++ tail)) f)) (fraction_as f.third (drop n (head ++ tail))))) head_ends
      ∙ rw (take_at head tail (length head) refl, drop_at head tail (length head) refl, g)

  pub time_told : time_in fs whole ≡ given (daytime (clock_as head f)) (fraction_as f.third tail)
  unfolding time_in
  time_told =
      let n = length (head ++ tail) in
      let e : head ++ (tail ++ zone_text z) ≡ (head ++ tail) ++ zone_text z = sym (append_assoc head tail (zone_text z)) in
      let l : length whole ≤ n + 1 = omega (arith, ap length e, length-append (head ++ tail) (zone_text z), zone_length z, bit_le z) in
      ap (λ (k : ℕ). need (leb (length whole) (k + 1)) 4 (unzoned fs (take k whole))) body_ends
      ∙ need_yes 4 _ (le-leb (length whole) (n + 1) l)
      ∙ ap (unzoned fs) (ap (take n) e ∙ take_at (head ++ tail) (zone_text z) n refl)
      ∙ unzoned_told
