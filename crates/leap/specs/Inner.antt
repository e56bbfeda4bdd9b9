-- What the private functions ask and answer. No promise cites these.
use Rattle.std.specs.Prelude.{ℕ, ◌+◌, ◌*◌, ◌<◌, ◌≤◌, [], ◌∷◌, ◌++◌, get_or}
use Rattle.leap.specs.Table.{Table, last_row}
use Rattle.leap.specs.Builtin.{no_row, first_index, past_index}
use Rattle.leap.specs.declared.Row.{Row}

-- row i of a table, and what ends it: the next row, or past the cover the same offset again
abbrev pub row_at : Table → ℕ → Row
row_at t i = get_or (t.first ∷ t.later) i no_row

abbrev pub end_row : Table → Row
end_row t = record { day = t.last + 1; offset = (last_row t.first t.later).offset }

abbrev pub end_at : Table → ℕ → Row
end_at t i = get_or (t.later ++ (end_row t ∷ [])) i no_row

abbrev pub begins : Row → ℕ
begins r = r.day * 86400 + r.offset

-- small enough for the machine's sums
pub record Small (r : Row) : Type 0 where
  pub day_low : first_index ≤ r.day
  pub day_high : r.day ≤ past_index
  pub offset_high : r.offset ≤ 101

-- row i is in force on day d, and in TAI second s
pub record OnDay (t : Table) (d i : ℕ) : Type 0 where
  pub row : i < 28
  pub low : (row_at t i).day ≤ d
  pub high : d < (end_at t i).day

pub record InSecond (t : Table) (s i : ℕ) : Type 0 where
  pub row : i < 28
  pub low : begins (row_at t i) ≤ s
  pub high : s < begins (end_at t i)
