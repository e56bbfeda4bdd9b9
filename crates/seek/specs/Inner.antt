-- What the private functions answer. No promise cites these.
use Rattle.std.specs.Prelude.{true, false, ◌≡◌, map, List, ℕ, ◌+◌, ◌*◌, ◌/◌, ◌%◌, ◌≤◌, ◌<◌, ℤ, Option}
use Rattle.base.specs.Parts.{lowered_by}
use Rattle.leap.specs.Builtin.{builtin}
use Rattle.leap.specs.Utc.{second_raise}
use Rattle.window.specs.Window.{named_in}
use Rattle.seek.specs.Naming.{may, clock_fits, names}
use Rattle.seek.specs.declared.Clock.{Clock}
use Rattle.seek.specs.declared.Wants.{Wants}

-- what a look at number n says, of which each sixty are told apart: n is wanted, or none is before r
pub record Ahead (w : Option ℕ) (n r : ℕ) : Type 0 where
  pub on : n ≤ r
  pub within : r ≤ (n / 60 + 1) * 60
  pub none : ((k : ℕ) → n ≤ k → k < r → may w (k % 60) ≡ false)
  pub here : (r ≡ n → may w (n % 60) ≡ true)

-- what a look at second s of a day says: it fits, or none fits before r
pub record Skips (k : Clock) (s r : ℕ) : Type 0 where
  pub on : s ≤ r
  pub within : r ≤ 86401
  pub common : (s < 86400 → r ≤ 86400)
  pub none : ((x : ℕ) → s ≤ x → x < r → clock_fits k x ≡ false)
  pub here : (r ≡ s → clock_fits k s ≡ true)

-- the moments with the wanted fields from `at` on and before `to`
abbrev pub left : Wants → ℕ → ℕ → List ℤ
left g at to = map (lowered_by second_raise) (named_in (names builtin g) at to)
