-- Fractions, told by cross products and never by a division: their order, and lowest terms.
use Rattle.std.specs.Prelude.{◌≡◌, Bool, ℕ, ◌<◌, ℤ, pos, nat_abs, ◌*ℤ◌}
use Rattle.std.specs.Int.{◌∣◌}
use Rattle.std.specs.Int.Signed.{lt_z}

-- a signed numerator over a denominator
pub record Fraction : Type 0 where
  pub num : ℤ
  pub den : ℕ

-- the order of the exact fractions: f is less than g
unfoldable pub below : Fraction → Fraction → Bool
below f g = lt_z (f.num *ℤ pos g.den) (g.num *ℤ pos f.den)

-- .. and greater
abbrev pub above : Fraction → Fraction → Bool
above f g = below g f

-- nothing but 1 divides both
abbrev pub Coprime : ℕ → ℕ → Type 0
Coprime a b = (d : ℕ) → d ∣ a → d ∣ b → d ≡ 1

-- f is q as "a signed numerator and a positive denominator in lowest terms": it has q's value, and numerator and denominator have no divisor in common but 1
pub record Lowest (q f : Fraction) : Type 0 where
  pub positive : 0 < f.den
  pub exact : f.num *ℤ pos q.den ≡ q.num *ℤ pos f.den
  pub terms : Coprime (nat_abs f.num) f.den
