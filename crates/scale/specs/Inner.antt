-- What the private functions ask and answer, in linear facts of naturals; the laws of proofs/Laws carry them to the definitions of Time. No promise cites these.
use Rattle.std.specs.Prelude.{◌≡◌, ℕ, ◌+◌, ◌*◌, ◌<◌, ◌≤◌}
use Rattle.base.specs.Parts.{plus, minus}
use Rattle.scale.specs.Time.{Time, per_second}

-- a good time, of its parts
pub record Within (H : ℕ) (t : Time) : Type 0 where
  pub low : minus t.sec ≤ H
  pub high : plus t.sec < H
  pub below : t.ticks < per_second

-- t is a less b
pub record Less (a b t : Time) : Type 0 where
  pub below : t.ticks < per_second
  pub exact :
      (plus t.sec + (minus a.sec + plus b.sec)) * per_second + (t.ticks + b.ticks)
      ≡ (minus t.sec + (plus a.sec + minus b.sec)) * per_second + a.ticks

-- t is a and b together
pub record Together (a b t : Time) : Type 0 where
  pub below : t.ticks < per_second
  pub exact :
      (plus t.sec + (minus a.sec + minus b.sec)) * per_second + t.ticks
      ≡ (minus t.sec + (plus a.sec + plus b.sec)) * per_second + (a.ticks + b.ticks)
