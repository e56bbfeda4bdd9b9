-- The permitted shapes of full ASCII codes (document 01, "The codes": "YYYY-MM-DD or YYYY-DDD, T, hh:mm:ss, then optionally a period and 1 to 12 digits, then optionally Z. Nothing may follow").
use Rattle.std.specs.Prelude.{[], ◌∷◌, ◌++◌}
use Rattle.shape.specs.Shapes.{Shapes}
use Rattle.shape.specs.Parts.{followed, perhaps, date_a, date_b, mark_t, full_clock, fractions, zones}

-- the 52 full codes
unfoldable pub code_shapes : Shapes
code_shapes = followed (date_a ∷ date_b ∷ []) (followed ((mark_t ++ full_clock) ∷ []) (followed (perhaps fractions) zones))
