-- Where the first bad field of an ASCII text begins (document 02, request 3: "An ASCII text of wrong shape gives the length of its longest start that also begins a permitted shape, whatever its digits; ranges are judged only in a right shape").
use Rattle.std.specs.Prelude.{Bool, true, false, cond, List, ◌++◌, ℕ, ◌+◌, ◌-◌, Option, Some}
use Rattle.shape.specs.Shapes.{Shapes, shaped, along}
use Rattle.field.specs.Fields.{Field, first_bad}
use Rattle.field.specs.Rules.{date_fields, ordinal_fields, clock_fields}
use Rattle.ascii.specs.Shapes.{code_shapes}
use Rattle.ascii.specs.Ascii.{front_of, layout_of, number_at}
use Rattle.tag.specs.Forms.{tag_shapes}
use Rattle.tag.specs.Fields.{fields_of}

-- the fields of a full code of right shape: YYYY-MM-DD or YYYY-DDD, and hh:mm:ss behind its T; the digits of a fraction have no rule
abbrev pub date_of : Bool → List ℕ → List Field
date_of true s = ordinal_fields 0 5 (number_at s 0 4) (number_at s 5 3)
date_of false s = date_fields 0 5 8 (number_at s 0 4) (number_at s 5 2) (number_at s 8 2)

abbrev pub clock_of : List ℕ → ℕ → List Field
clock_of s at = clock_fields at (at + 3) (at + 6) (number_at s at 2) (number_at s (at + 3) 2) (number_at s (at + 6) 2)

abbrev pub code_fields : List ℕ → List Field
code_fields s = let ordinal = (layout_of s).ordinal in date_of ordinal s ++ clock_of s (front_of ordinal - 8)

-- the first bad field of a text that has one of the shapes, or how far any other goes along one
abbrev pub place_by : Shapes → (List ℕ → List Field) → List ℕ → Option ℕ
place_by ps fields s = cond (shaped ps s) (first_bad (fields s)) (Some (along ps s))

unfoldable pub text_place : List ℕ → Option ℕ
text_place s = place_by code_shapes code_fields s

-- the permitted shapes are those of all tags, full codes included
unfoldable pub tag_place : List ℕ → Option ℕ
tag_place s = place_by tag_shapes fields_of s
