-- The rate between two pairs (document 02, request 1): "onboard elapsed over ground elapsed".
use Rattle.std.specs.Prelude.{Bool, ◌&&◌, ℕ, ◌*◌, ◌/◌, ◌%◌, ◌^◌, eqb, ltb, ℤ, pos, nat_abs, ◌-ℤ◌}
use Rattle.std.specs.Int.Signed.{lt_z}
use Rattle.base.specs.Outcome.{Outcome, done, need}
use Rattle.scale.specs.Time.{Time, per_second, worth, is_record}
use Rattle.drift.specs.Fraction.{Fraction}

-- "Controllers pair an onboard record with a ground record"
pub record Pair : Type 0 where
  pub onboard : Time
  pub ground : Time

abbrev pub pair_of : Time → Time → Pair
pair_of a b = record { onboard = a; ground = b }

-- a test of all four records
abbrev pub of_all : (Time → Bool) → Pair → Pair → Bool
of_all test p q = (test p.onboard && test p.ground) && (test q.onboard && test q.ground)

-- the ticks of 2^-24 s
abbrev pub step : ℕ
step = per_second / 2 ^ 24

-- on "the 2^-24 s grid"
abbrev pub on_grid : Time → Bool
on_grid t = eqb (t.ticks % step) 0

-- the second record less the first, in ticks
abbrev pub elapsed : Time → Time → ℤ
elapsed first second = worth second -ℤ worth first

-- not "an elapsed time of 2^32 s or more in size"
abbrev pub short : ℤ → Bool
short z = ltb (nat_abs z) (2 ^ 32 * per_second)

-- not "ground elapsed zero or negative"
abbrev pub passed : ℤ → Bool
passed z = lt_z (pos 0) z

-- the quotient of the two elapsed times: "Refused in this order: an invalid record 7, one off the 2^-24 s grid new 11, an elapsed time of 2^32 s or more in size 7, ground elapsed zero or negative new 10"
unfoldable pub quotient_of : Pair → Pair → Outcome Fraction
quotient_of p q =
    need (of_all is_record p q) 7
    (need (of_all on_grid p q) 11
    (need (short (elapsed p.onboard q.onboard) && short (elapsed p.ground q.ground)) 7
    (need (passed (elapsed p.ground q.ground)) 10
    (done (record { num = elapsed p.onboard q.onboard; den = nat_abs (elapsed p.ground q.ground) })))))
