-- Numbers of document 01's known times, and the ends of each kind of reading, by computation.
use mathlib.Core.Path.{◌≡◌, refl}
use mathlib.Core.List.{List, [], ◌∷◌}
use Prim.Native.Nat.{ℕ, ◌^◌}
use Rattle.octets.specs.Places.{be, octets, bcd_of, bcd, decimal_of, digits}
use Rattle.octets.specs.Counts.{count_of, count_at, bcd_at, decimal_at}
use Rattle.octets.specs.Stores.{pasted}
use Rattle.octets.specs.Powers.{power_in}
use Rattle.std.specs.Prelude.{Ok, Err}
use Rattle.base.specs.declared.Refusal.TheVariants.{Short, Field}

-- 6E FA A5 24, a second of CUC
abbrev second : List ℕ
second = 110 ∷ 250 ∷ 165 ∷ 36 ∷ []

second_count : (be second 4 ≡ 1861920036) × (octets 4 1861920036 ≡ second)
second_count = (refl, refl)

-- 20 16, a year of CCS
abbrev year : List ℕ
year = 32 ∷ 22 ∷ []

year_count : (bcd_of year 2 ≡ 2016) × (bcd 2 2016 ≡ year)
year_count = (refl, refl)

-- "121093", a fraction of ASCII
abbrev fraction : List ℕ
fraction = 49 ∷ 50 ∷ 49 ∷ 48 ∷ 57 ∷ 51 ∷ []

fraction_count : (decimal_of fraction 6 ≡ 121093) × (digits 6 121093 ≡ fraction)
fraction_count = (refl, refl)

-- a part from a place on; the bytes run out; too wide
count_ends : (count_at second 1 3 ≡ Ok 16426276) × (count_at second 2 3 ≡ Err Short) × (count_at second 5 0 ≡ Err Short) × (count_at [] 0 9 ≡ Err Short)
unfolding count_of
count_ends = (refl, refl, refl, refl)

-- a nibble of 10; both rules broken, and the bytes first
bcd_ends : (bcd_at (153 ∷ []) 0 1 ≡ Ok 99) × (bcd_at (160 ∷ []) 0 1 ≡ Err Field) × (bcd_at (10 ∷ []) 0 1 ≡ Err Field) × (bcd_at (10 ∷ []) 0 2 ≡ Err Short)
unfolding count_of
bcd_ends = (refl, refl, refl, refl)

-- the characters next to the digits
decimal_ends : (decimal_at fraction 2 4 ≡ Ok 1093) × (decimal_at (47 ∷ []) 0 1 ≡ Err Field) × (decimal_at (58 ∷ []) 0 1 ≡ Err Field) × (decimal_at fraction 0 7 ≡ Err Short)
unfolding count_of
decimal_ends = (refl, refl, refl, refl)

-- a number is cut to the width, and bytes beside the text stay
put_ends : (octets 1 513 ≡ 1 ∷ []) × (pasted (9 ∷ 9 ∷ 9 ∷ 9 ∷ []) 1 (bcd 2 2016) ≡ 9 ∷ 32 ∷ 22 ∷ 9 ∷ [])
unfolding pasted
put_ends = (refl, refl)

power_ends : (power_in 256 8 7 ≡ 2 ^ 56) × (power_in 256 8 8 ≡ 0) × (power_in 10 20 19 ≡ 10000000000000000000) × (power_in 10 20 20 ≡ 0)
power_ends = (refl, refl, refl, refl)
