-- Document 01's ticks and its half second, and the ends of the ranges, by computation.
use mathlib.Core.Path.{◌≡◌, refl}
use Prim.Native.Nat.{ℕ, ◌*◌, ◌^◌}
use lib.IntN.{ℤ, pos, negsuc}
use Rattle.base.specs.Parts.{within}
use Rattle.base.specs.Outcome.{done, refused}
use Rattle.scale.specs.Time.{Time, per_second, good, record_of, span_of, difference_of, shift_of}

abbrev time : ℤ → ℕ → Time
time s n = record { sec = s; ticks = n }

-- "A second has 4,096,000,000,000,000 ticks, so 2^-24 s is 244,140,625 ticks and a picosecond is 4,096"
units : (2 ^ 24 * 244140625 ≡ per_second) × (10 ^ 12 * 4096 ≡ per_second)
units = (refl, refl)

-- "minus half a second is -1 s and 2,048,000,000,000,000 ticks"
half : difference_of (time (pos 0) 0) (time (pos 0) 2048000000000000) ≡ done (time (negsuc 0) 2048000000000000)
unfolding within good
half = refl

widest : difference_of (time (pos 2199023255551) 4095999999999999) (time (negsuc 2199023255551) 0) ≡ done (time (pos 4398046511103) 4095999999999999)
unfolding within good
widest = refl

lowest : difference_of (time (negsuc 2199023255551) 0) (time (pos 2199023255551) 4095999999999999) ≡ done (time (negsuc 4398046511103) 1)
unfolding within good
lowest = refl

past : shift_of (time (pos 2199023255551) 4095999999999999) (time (pos 0) 1) ≡ refused 7
unfolding within good
past = refl

carried : shift_of (time (negsuc 0) 2048000000000000) (time (pos 0) 2048000000000000) ≡ done (time (pos 0) 0)
unfolding within good
carried = refl

-- past each end
record_ends : (record_of (time (pos 2199023255552) 0) ≡ refused 7) × (record_of (time (negsuc 2199023255552) 0) ≡ refused 7) × (record_of (time (pos 0) 4096000000000000) ≡ refused 7)
unfolding within good
record_ends = (refl, refl, refl)

span_ends : (span_of (time (pos 4398046511104) 0) ≡ refused 7) × (span_of (time (negsuc 4398046511104) 0) ≡ refused 7) × (span_of (time (pos 0) 4096000000000000) ≡ refused 7)
unfolding within good
span_ends = (refl, refl, refl)
