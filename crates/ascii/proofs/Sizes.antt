-- How long the parts of a code are.
use mathlib.Core.Path.{◌≡◌, refl, sym, ◌∙◌}
use mathlib.Core.Bool.{Bool, true, false, cond}
use Prim.Native.Nat.{ℕ, ◌+◌, ◌<◌, ◌≤◌}
use native.Mathlib.Omega.{arith}
use lib.Dec.{eqb, leb}
use lib.ListN.{length}
use borrow.Author.Tests.{eq-eqb, ne_eqb, le-leb, lt-leb, leb-true, leb-false}
use Rattle.base.proofs.Bools.{cond_yes, cond_no}
use Rattle.ascii.specs.declared.Layout.{Layout}
use Rattle.ascii.specs.Ascii.{front_of, part_size, bit, width, zone_text}

pub part_none : (d : ℕ) → d ≡ 0 → 0 ≡ part_size d
part_none d e = sym (cond_yes _ _ (eq-eqb d 0 e))

pub part_some : (d : ℕ) → (d ≡ 0 → ⊥) → d + 1 ≡ part_size d
part_some d e = sym (cond_no _ _ (ne_eqb d 0 e))

pub front_in : (o : Bool) → (17 ≤ front_of o) × (front_of o ≤ 19)
front_in true = (omega arith, omega arith)
front_in false = (omega arith, omega arith)

pub bit_le : (z : Bool) → bit z ≤ 1
bit_le true = omega arith
bit_le false = omega arith

pub zone_length : (z : Bool) → length (zone_text z) ≡ bit z
zone_length true = refl
zone_length false = refl

pub part_le : (d : ℕ) → d ≤ 12 → part_size d ≤ 13
part_le d h = go (eqb d 0)
  where
    go : (t : Bool) → cond t 0 (d + 1) ≤ 13
    go true = omega arith
    go false = omega arith

pub width_of : (l : Layout) → l.digits ≤ 12 → width l ≡ front_of l.ordinal + part_size l.digits + bit l.zone
unfolding width
width_of l h = cond_yes _ _ (le-leb l.digits 12 h)

pub width_none : (l : Layout) → 12 < l.digits → width l ≡ 0
unfolding width
width_none l h = cond_no _ _ (lt-leb l.digits 12 h)

-- what has a length is a layout
pub width_few : (l : Layout) → 1 ≤ width l → l.digits ≤ 12
unfolding width
width_few l h = go (leb l.digits 12) refl
  where
    go : (t : Bool) → leb l.digits 12 ≡ t → l.digits ≤ 12
    go true f = leb-true l.digits 12 f
    go false f = absurd (let z : ⊥ = omega (arith, width_none l (leb-false l.digits 12 f)) in z)

-- a text as long as its layout's codes
pub record Placed (l : Layout) (n : ℕ) : Type 0 where
  pub few : l.digits ≤ 12
  pub size : n ≡ front_of l.ordinal + part_size l.digits + bit l.zone

pub placed_by : (l : Layout) (n : ℕ) → 1 ≤ n → width l ≡ n → Placed l n
placed_by l n h e = let k = width_few l (omega arith) in record { few = k; size = sym e ∙ width_of l k }

pub placed_width : (l : Layout) (n : ℕ) → Placed l n → width l ≡ n
placed_width l n p = width_of l p.few ∙ sym p.size
