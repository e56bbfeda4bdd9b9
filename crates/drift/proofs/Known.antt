-- Known rates and refusals, at the ends of every range, and a known run, by computation.
use mathlib.Core.Path.{◌≡◌, refl}
use mathlib.Core.List.{List, [], ◌∷◌, map}
use Prim.Native.Nat.{ℕ, ◌*◌}
use native.Mathlib.Nat.{eq-one_of_dvd-one}
use lib.Dec.{lit<}
use lib.IntN.{ℤ, pos, negsuc}
use Rattle.base.specs.Outcome.{refused, status}
use Rattle.base.specs.Parts.{within}
use Rattle.scale.specs.Time.{Time, per_second, good}
use Rattle.drift.specs.Fraction.{Fraction, below, Lowest}
use Rattle.drift.specs.Rate.{Pair, step, quotient_of}
use Rattle.drift.specs.Run.{after, twos, count, unbeaten, first_rate, extreme_of, nothing, at, Report, report_of}

abbrev time : ℤ → ℕ → Time
time s n = record { sec = s; ticks = n }

abbrev pair : Time → Time → Pair
pair o g = record { onboard = o; ground = g }

abbrev start : Time
start = time (pos 0) 0

-- from nothing elapsed to onboard o and ground g: the number of the refusal, or 0
abbrev asked : Time → Time → ℕ
asked o g = status (quotient_of (pair start start) (pair o g))

-- an invalid record before one off the grid; one off the grid before a size; a size before ground elapsed zero; and that
order : (asked (time (pos 0) per_second) (time (pos 1) 1) ≡ 7) × (asked (time (pos 4294967296) 1) start ≡ 11) × (asked (time (pos 4294967296) 0) start ≡ 7) × (asked (time (pos 1) 0) start ≡ 10)
unfolding quotient_of within good
order = (refl, refl, refl, refl)

-- the size is exact: -2^32 s and one step, and one step less than 2^32 s, are less than 2^32 s in size; -2^32 s is not
abbrev longest : Time
longest = time (pos 4294967295) (16777215 * step)

sizes : (asked (time (negsuc 4294967295) step) longest ≡ 0) × (asked longest (time (pos 0) step) ≡ 0) × (asked (time (negsuc 4294967295) 0) longest ≡ 7) × (asked start (time (negsuc 4294967295) 0) ≡ 7) × (asked start (time (negsuc 4294967295) step) ≡ 10)
unfolding quotient_of within good
sizes = (refl, refl, refl, refl, refl)

-- valid records can lie 2^42 s apart
widest : quotient_of (pair (time (negsuc 2199023255551) 0) start) (pair (time (pos 2199023255551) 0) (time (pos 1) 0)) ≡ refused 7
unfolding quotient_of within good
widest = refl

-- (0,0)(1,2)(1,2)(2,4)(5,4)(4,6) in seconds
abbrev run : List Pair
run =
    map (λ (p : ℕ × ℕ). pair (time (pos p.0) 0) (time (pos p.1) 0))
    ((0, 0) ∷ (1, 2) ∷ (1, 2) ∷ (2, 4) ∷ (5, 4) ∷ (4, 6) ∷ [])

-- so many seconds over so many
abbrev seconds : ℤ → ℕ → Fraction
seconds z d = record { num = z; den = d * per_second }

known_run : report_of run ≡ record { rates = 3; range = 0; not_elapsed = 2; off_grid = 0; smallest = at 4 (seconds (negsuc 4095999999999999) 2); largest = at 0 (seconds (pos per_second) 2) }
unfolding quotient_of within good after twos count unbeaten first_rate extreme_of below
known_run = refl

-- .. which is -1/2, and 1/2
smallest : Lowest (seconds (negsuc 4095999999999999) 2) (record { num = negsuc 0; den = 2 })
smallest = record { positive = lit< tt; exact = refl; terms = λ d u v. eq-one_of_dvd-one u }

largest : Lowest (seconds (pos per_second) 2) (record { num = pos 1; den = 2 })
largest = record { positive = lit< tt; exact = refl; terms = λ d u v. eq-one_of_dvd-one u }

-- a run of no pair, and of one
abbrev zeros : Report
zeros = record { rates = 0; range = 0; not_elapsed = 0; off_grid = 0; smallest = nothing; largest = nothing }

few : (report_of [] ≡ zeros) × (report_of (pair start start ∷ []) ≡ zeros)
unfolding after twos count first_rate extreme_of
few = (refl, refl)
