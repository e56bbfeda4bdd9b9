-- Texts of wrong shape with the length of their longest start that begins a permitted one, and texts of right shape, by computation.
use mathlib.Core.Path.{◌≡◌, refl}
use mathlib.Core.List.{List, [], ◌∷◌, map}
use Prim.Native.Nat.{ℕ}
use Rattle.shape.specs.Quoted.{bytes}
use Rattle.shape.specs.Shapes.{shape_of, shaped, begins, along}
use Rattle.ascii.specs.Shapes.{code_shapes}
use Rattle.tag.specs.Forms.{days, months, hours, minutes, tag_shapes}
use Rattle.fit.specs.Fit.{fit_of}
use Rattle.std.specs.Prelude.{Ok, Err}

-- ---- codes: only their shape counts, so month 13, hour 24 and second 61 pass; z is no Z
codes : List (List ℕ)
codes =
    bytes "2016-12-31T23:59" ∷
    bytes "2016-13-31T23:59" ∷
    bytes "2016-02-30T23:59:59.1234567890123" ∷
    bytes "-12-31T00:00:00" ∷
    bytes "2016-12-31T23:59:59z" ∷
    bytes "0000-13-32T24:60:61" ∷ []

codes_fit : map (fit_of code_shapes) codes ≡ Err 16 ∷ Err 16 ∷ Err 32 ∷ Err 0 ∷ Err 19 ∷ (Ok tt) ∷ []
unfolding codes fit_of shaped along begins shape_of code_shapes
codes_fit = refl

-- ---- tags: a calendar and a time
joined : List (List ℕ)
joined =
    bytes "-12T10" ∷
    bytes "-123T" ∷
    bytes "2016T10" ∷
    bytes "2016-12T10" ∷
    bytes "2016-12-31T" ∷
    bytes "2016-12-31T10.5" ∷ []

joined_fit : map (fit_of tag_shapes) joined ≡ Err 3 ∷ Err 5 ∷ Err 4 ∷ Err 7 ∷ Err 11 ∷ Err 13 ∷ []
unfolding joined fit_of shaped along begins shape_of tag_shapes days months hours minutes
joined_fit = refl

-- ---- tags: a calendar alone
calendars : List (List ℕ)
calendars =
    bytes "2016-1231" ∷
    bytes "2016-12-31Z" ∷
    bytes "--" ∷
    bytes "---" ∷
    bytes "123" ∷
    bytes "123:" ∷
    bytes "1234Z" ∷
    bytes "-13" ∷ []

calendars_fit : map (fit_of tag_shapes) calendars ≡ Err 8 ∷ Err 10 ∷ Err 2 ∷ Err 2 ∷ Err 3 ∷ Err 3 ∷ Err 4 ∷ (Ok tt) ∷ []
unfolding calendars fit_of shaped along begins shape_of tag_shapes days months hours minutes
calendars_fit = refl

-- ---- tags: a time alone
times : List (List ℕ)
times = bytes "12:" ∷ bytes "::." ∷ bytes "::.Z" ∷ bytes "::.1234567890123" ∷ bytes "::61" ∷ []

times_fit : map (fit_of tag_shapes) times ≡ Err 3 ∷ Err 3 ∷ Err 3 ∷ Err 15 ∷ (Ok tt) ∷ []
unfolding times fit_of shaped along begins shape_of tag_shapes days months hours minutes
times_fit = refl
