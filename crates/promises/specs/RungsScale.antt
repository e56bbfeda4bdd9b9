-- Difference and shift (document 01, 7: "invalid record, span or epoch; a shift's sum .. out of range").
use Rattle.std.specs.Prelude.{List, [], ◌∷◌, ◌+ℤ◌}
use Rattle.scale.specs.Time.{Time, worth, of_ticks, is_record, is_span}
use Rattle.promises.specs.Rungs.{Rung, rung}

abbrev pub difference_rungs : Time → Time → List Rung
difference_rungs a b = rung 7 (is_record a) ∷ rung 7 (is_record b) ∷ []

-- the sum is judged once both can be added
abbrev pub shift_rungs : Time → Time → List Rung
shift_rungs r s = rung 7 (is_record r) ∷ rung 7 (is_span s) ∷ rung 7 (is_record (of_ticks (worth r +ℤ worth s))) ∷ []
