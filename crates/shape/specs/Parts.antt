-- The parts that the shapes of full codes and of shortened tags are built from (document 01, "The codes": "YYYY-MM-DD or YYYY-DDD, T, hh:mm:ss, then optionally a period and 1 to 12 digits, then optionally Z").
use Rattle.std.specs.Prelude.{List, [], ◌∷◌, ◌++◌, map, ℕ}
use Rattle.shape.specs.Quoted.{bytes}
use Rattle.shape.specs.Shapes.{Shapes}

-- each of the first before each of the second
abbrev pub followed : Shapes → Shapes → Shapes
followed [] qs = []
followed (p ∷ ps) qs = map (λ q. p ++ q) qs ++ followed ps qs

-- "optionally"
abbrev pub perhaps : Shapes → Shapes
perhaps ps = [] ∷ ps

-- the full dates: form A, and form B
abbrev pub date_a : List ℕ
date_a = bytes "0000-00-00"

abbrev pub date_b : List ℕ
date_b = bytes "0000-000"

-- between a date and a time
abbrev pub mark_t : List ℕ
mark_t = bytes "T"

-- the full time
abbrev pub full_clock : List ℕ
full_clock = bytes "00:00:00"

-- "a period and 1 to 12 digits"
abbrev pub fractions : Shapes
fractions =
    bytes ".0" ∷
    bytes ".00" ∷
    bytes ".000" ∷
    bytes ".0000" ∷
    bytes ".00000" ∷
    bytes ".000000" ∷
    bytes ".0000000" ∷
    bytes ".00000000" ∷
    bytes ".000000000" ∷
    bytes ".0000000000" ∷
    bytes ".00000000000" ∷
    bytes ".000000000000" ∷ []

abbrev pub zones : Shapes
zones = perhaps (bytes "Z" ∷ [])
