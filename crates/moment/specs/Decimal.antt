-- Decimal fractions of a second in ticks.
use Rattle.std.specs.Prelude.{ℕ, ◌*◌, ◌/◌, ◌^◌}
use Rattle.scale.specs.Time.{per_second}

-- the ticks of a fraction of d digits
abbrev pub ticks_of : ℕ → ℕ → ℕ
ticks_of d f = f * (per_second / 10 ^ d)
