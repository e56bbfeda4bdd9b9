-- Powers that a table holds.
use Rattle.std.specs.Prelude.{cond, ℕ, ◌^◌, ltb}

-- b ^ k below the table's end, and else 0
abbrev pub power_in : (b size : ℕ) → ℕ → ℕ
power_in b size k = cond (ltb k size) (b ^ k) 0
