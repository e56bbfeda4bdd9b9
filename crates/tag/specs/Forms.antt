-- The permitted forms of shortened ASCII tags (document 01, "Shortened tags": "Calendars: YYYY-MM-DD, -MM-DD, --DD, YYYY-MM, -MM, YYYY, YYYY-DDD, -DDD. Times begin at hh, ":" mm, "::" ss or "::." and end anywhere after").
use Rattle.std.specs.Prelude.{cond, List, [], ◌∷◌, ◌++◌, map, ℕ}
use Rattle.base.specs.Outcome.{Outcome, done, refused}
use Rattle.shape.specs.Quoted.{bytes}
use Rattle.shape.specs.Shapes.{Shapes, fits}
use Rattle.shape.specs.Parts.{followed, perhaps, date_a, date_b, mark_t, full_clock, fractions, zones}

-- where a field is: "Dropped on the left: .. the subfields are free. Dropped on the right: .. the subfields take their lowest value"; any other stands at a place of the text
pub data Place : Type 0 where
  free : Place
  lowest : Place
  at : ℕ → Place

-- a shape, and where its fields are: year, month, day and day of the year, or hour, minute and second
pub record Form : Type 0 where
  pub shape : List ℕ
  pub first : Place
  pub second : Place
  pub third : Place
  pub fourth : Place

abbrev pub form : List ℕ → Place → Place → Place → Place → Form
form s a b c d = record { shape = s; first = a; second = b; third = c; fourth = d }

abbrev pub Forms : Type 0
Forms = List Form

-- calendars that reach their day, and the others
unfoldable pub days : Forms
days =
    form date_a (at 0) (at 5) (at 8) free ∷
    form (bytes "-00-00") free (at 1) (at 4) free ∷
    form (bytes "--00") free free (at 2) free ∷
    form date_b (at 0) free free (at 5) ∷
    form (bytes "-000") free free free (at 1) ∷ []

unfoldable pub months : Forms
months =
    form (bytes "0000-00") (at 0) (at 5) lowest free ∷
    form (bytes "-00") free (at 1) lowest free ∷
    form (bytes "0000") (at 0) lowest lowest free ∷ []

-- times without fraction and Z, from the hour on, and from later on; the last has to have a fraction
unfoldable pub hours : Forms
hours =
    form (bytes "00") (at 0) lowest lowest free ∷
    form (bytes "00:00") (at 0) (at 3) lowest free ∷
    form full_clock (at 0) (at 3) (at 6) free ∷ []

unfoldable pub minutes : Forms
minutes =
    form (bytes ":00") free (at 1) lowest free ∷
    form (bytes ":00:00") free (at 1) (at 4) free ∷
    form (bytes "::00") free free (at 2) free ∷
    form (bytes "::") free free free free ∷ []

-- the form that a text has the shape of; none is 4
abbrev pub find : Forms → List ℕ → Outcome Form
find [] s = refused 4
find (f ∷ fs) s = cond (fits f.shape s) (done f) (find fs s)

-- ---- the shapes of tags
abbrev pub shapes_of : Forms → Shapes
shapes_of fs = map (λ (f : Form). f.shape) fs

-- what may follow a time by where its second is: a period and digits behind a second, but something after "::"; and nothing after hh or mm
abbrev pub endings : Place → Shapes
endings free = fractions
endings lowest = [] ∷ []
endings (at i) = perhaps fractions

-- "Z only after a time"
abbrev pub time_shapes : Forms → Shapes
time_shapes [] = []
time_shapes (f ∷ fs) = followed (f.shape ∷ []) (followed (endings f.third) zones) ++ time_shapes fs

-- the 266 tags: a calendar or a time alone, or "Joined by T, the calendar must reach its day and the time must begin at hh"
unfoldable pub tag_shapes : Shapes
tag_shapes = shapes_of (days ++ months) ++ (time_shapes (hours ++ minutes) ++ followed (shapes_of days) (followed (mark_t ∷ []) (time_shapes hours)))
