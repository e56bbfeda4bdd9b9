-- A counter with a period (document 01, "Shortened tags": "It names epoch + T + k × 256^c seconds for every whole k of 0 or more"), over seconds raised by 2^41.
use Rattle.std.specs.Prelude.{Bool, ◌&&◌, map, ℕ, ◌+◌, ◌-◌, ◌/◌, ◌%◌, ◌^◌, ℤ, leb, eqb}
use Rattle.base.specs.Outcome.{Outcome, done, need}
use Rattle.base.specs.Parts.{lowered_by}
use Rattle.window.specs.Window.{Named, named_in}

-- base + k × period for every k from 0
unfoldable pub names : ℕ → ℕ → ℕ → Bool
names base period x = leb base x && eqb ((x - base) % period) 0

-- how many are named below x
unfoldable pub count_below : ℕ → ℕ → ℕ → ℕ
count_below base period x = (x - base + (period - 1)) / period

-- a period from 1 to 2^63 and seconds to 2^63: a second and a period still make a sum of 64 bits
unfoldable pub in_reach : ℕ → ℕ → ℕ → ℕ → Bool
in_reach base period from to =
    leb 1 period && (leb period (2 ^ 63) && (leb base (2 ^ 63) && (leb from (2 ^ 63) && leb to (2 ^ 63))))

-- all that is named from `from` on and before `to`; numbers out of reach are 7
unfoldable pub list_of : ℕ → ℕ → ℕ → ℕ → ℕ → Outcome (Named ℤ)
list_of base period from to k =
    need (in_reach base period from to) 7 (done (record { ticks = k; all = map (lowered_by (2 ^ 41)) (named_in (names base period) from to) }))
