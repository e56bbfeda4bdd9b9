-- What ties a kind of element to its base: good elements and the values below the base are in step. And the three kinds keep it.
use Rattle.std.specs.Prelude.{◌≡◌, Bool, true, ℕ, ◌/◌, ◌%◌, ◌<◌, ◌≤◌, leb, refl}
use native.Mathlib.Omega.{arith}
use mathlib.Core.Path.{◌∙◌}
use borrow.Author.Tests.{ltb-true, leb-true, lt-ltb, le-leb}
use lib.Dec.{lit<}
use Rattle.base.proofs.Bools.{and_true, and_yes}
use Rattle.octets.specs.Places.{octet_value, octet_of, octet_good, bcd_value, bcd_element, bcd_good, digit_value, digit_of, digit_good}

pub record Rule (b : ℕ) (v p : ℕ → ℕ) (ok : ℕ → Bool) : Type 0 where
  pub some : 0 < b
  pub below : (x : ℕ) → ok x ≡ true → v x < b
  pub again : (x : ℕ) → ok x ≡ true → p (v x) ≡ x
  pub value : (d : ℕ) → d < b → v (p d) ≡ d
  pub good : (d : ℕ) → d < b → ok (p d) ≡ true

pub octet_rule : Rule 256 octet_value octet_of octet_good
octet_rule = record {
  some = lit< tt;
  below = λ x g. ltb-true x 256 g;
  again = λ x g. refl;
  value = λ d h. refl;
  good = λ d h. lt-ltb d 256 h;
}

pub bcd_rule : Rule 100 bcd_value bcd_element bcd_good
bcd_rule = record {
  some = lit< tt;
  below = λ x g. let n = nibbles x g in omega arith;
  again = λ x g. let n = nibbles x g in omega arith;
  value = λ d h. omega arith;
  good = λ d h. and_yes _ (le-leb (bcd_element d / 16) 9 (omega arith)) ∙ le-leb (bcd_element d % 16) 9 (omega arith);
}
  where
    nibbles : (x : ℕ) → bcd_good x ≡ true → (x / 16 ≤ 9) × (x % 16 ≤ 9)
    nibbles x g = let e = and_true (leb (x / 16) 9) (leb (x % 16) 9) g in (leb-true _ _ e.0, leb-true _ _ e.1)

pub digit_rule : Rule 10 digit_value digit_of digit_good
digit_rule = record {
  some = lit< tt;
  below = λ x g. let n = ends x g in omega arith;
  again = λ x g. let n = ends x g in omega arith;
  value = λ d h. omega arith;
  good = λ d h. and_yes _ (le-leb 48 (digit_of d) (omega arith)) ∙ le-leb (digit_of d) 57 (omega arith);
}
  where
    ends : (x : ℕ) → digit_good x ≡ true → (48 ≤ x) × (x ≤ 57)
    ends x g = let e = and_true (leb 48 x) (leb x 57) g in (leb-true _ _ e.0, leb-true _ _ e.1)
