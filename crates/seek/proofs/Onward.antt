-- What an iterator over moments has left, by the first that it finds.
use Rattle.std.proofs.Common.{◌≡◌, ap, ℕ, ◌+◌, ◌≤◌, ◌<◌, [], ◌∷◌, map, Some, None, arith}
use Rattle.base.specs.Parts.{lowered_by}
use Rattle.leap.specs.Builtin.{builtin}
use Rattle.leap.specs.Utc.{second_raise}
use Rattle.window.specs.Window.{named_in, first_of}
use Rattle.window.proofs.Moments.{least_of, found_in, found_none}
use Rattle.seek.specs.Naming.{names}
use Rattle.seek.specs.Inner.{left}
use Rattle.seek.specs.declared.Wants.{Wants}

module _ (g : Wants) (at to : ℕ) where
  pub none_left : None ≡ first_of (named_in (names builtin g) at to) → left g at to ≡ []
  none_left q = ap (map (lowered_by second_raise)) (found_none (names builtin g) at to to q (omega arith))

  pub next_left : (m : ℕ) → Some m ≡ first_of (named_in (names builtin g) at to) → left g at to ≡ lowered_by second_raise m ∷ left g (m + 1) to
  next_left m q = ap (map (lowered_by second_raise)) (found_in (names builtin g) at to to q (least_of (names builtin g) q).before)

  pub found_from : (m : ℕ) → Some m ≡ first_of (named_in (names builtin g) at to) → (at ≤ m) × (m < to)
  found_from m q = let l = least_of (names builtin g) q in (l.from, l.before)
