-- The texts that are written: how long they are.
use mathlib.Core.Path.{◌≡◌, refl, sym, ◌∙◌}
use mathlib.Core.Bool.{Bool, true, false}
use Prim.Native.Nat.{ℕ, zero, suc, ◌+◌, ◌≤◌}
use native.Mathlib.Omega.{arith}
use lib.ListN.{length, length-append}
use borrow.Author.Tests.{ne_eqb}
use Rattle.octets.specs.Places.{digit_of, digits}
use Rattle.octets.proofs.Places.{length_places}
use Rattle.ascii.specs.declared.Layout.{Layout}
use Rattle.ascii.specs.Ascii.{front_of, part_size, bit, width, day_text, clock_text, fraction_text, code_text}
use Rattle.ascii.proofs.Sizes.{width_of, zone_length}

pub digits_length : (w n : ℕ) → length (digits w n) ≡ w
digits_length w n = length_places 10 digit_of w n

pub day_length_lem : (o : Bool) (n : ℕ) → length (day_text o n) + 9 ≡ front_of o
unfolding day_text
day_length_lem true n = refl
day_length_lem false n = refl

pub clock_length : (n : ℕ) → length (clock_text n) ≡ 9
unfolding clock_text
clock_length n = refl

pub fraction_length : (d f : ℕ) → length (fraction_text d f) ≡ part_size d
fraction_length zero f = refl
fraction_length (suc d) f = rw (ne_eqb (suc d) 0 (λ e. omega (arith, e))) (omega (arith, digits_length (suc d) f))

pub code_length : (l : Layout) (n x f : ℕ) → length (code_text l n x f) ≡ front_of l.ordinal + part_size l.digits + bit l.zone
unfolding code_text
code_length l n x f =
    simp length-append (omega (arith, day_length_lem l.ordinal n, clock_length x, fraction_length l.digits f, zone_length l.zone))

pub code_width : (l : Layout) (n x f : ℕ) → l.digits ≤ 12 → length (code_text l n x f) ≡ width l
code_width l n x f h = code_length l n x f ∙ sym (width_of l h)
