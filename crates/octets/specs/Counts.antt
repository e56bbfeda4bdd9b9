-- What reading w elements from a place on answers.
use Rattle.std.specs.Prelude.{Bool, cond, ◌&&◌, List, ℕ, ◌+◌, leb, length, drop, Result, Ok, Err}
use Rattle.base.specs.declared.Refusal.{Refusal}
use Rattle.base.specs.declared.Refusal.TheVariants.{Short, Field}
use Rattle.octets.specs.Places.{number, all_good, octet_value, octet_good, bcd_value, bcd_good, digit_value, digit_good}

-- Short where the width is over the widest or the elements run out, then Field where one breaks its rule
unfoldable pub count_of : (b : ℕ) (v : ℕ → ℕ) (ok : ℕ → Bool) (widest : ℕ) → List ℕ → ℕ → ℕ → Result ℕ Refusal
count_of b v ok widest s at w =
    cond (leb w widest && leb (at + w) (length s)) (cond (all_good ok (drop at s) w) (Ok (number b v (drop at s) w)) (Err Field)) (Err Short)

-- the widest are those whose every number is a u64; a slice's bytes are octets, so the first is never Field
abbrev pub count_at : List ℕ → ℕ → ℕ → Result ℕ Refusal
count_at s at w = count_of 256 octet_value octet_good 8 s at w

abbrev pub bcd_at : List ℕ → ℕ → ℕ → Result ℕ Refusal
bcd_at s at w = count_of 100 bcd_value bcd_good 9 s at w

abbrev pub decimal_at : List ℕ → ℕ → ℕ → Result ℕ Refusal
decimal_at s at w = count_of 10 digit_value digit_good 19 s at w
