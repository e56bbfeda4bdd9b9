-- Computed examples around the last inserted second, 2016-12-31T23:59:60, and at the cover's ends.
use mathlib.Core.List.{List, [], ◌∷◌, map}
use mathlib.Core.Path.{◌≡◌, refl}
use lib.IntN.{ℤ, pos}
use Rattle.base.specs.Outcome.{Outcome, done}
use Rattle.calendar.specs.Gregorian.{kind, year_start, years_to, row, ordinal_on, date_in}
use Rattle.leap.specs.Table.{offset, start, day_holding, covers_second, reading_at}
use Rattle.leap.specs.Builtin.{builtin}
use Rattle.window.specs.Window.{Named, up, range, cons_if, filter, named_in}
use Rattle.seek.specs.Naming.{day_fits, clock_fits, names, covers_window, list_of}
use Rattle.seek.specs.declared.Wants.{Wants}
use Rattle.std.specs.Prelude.{ℕ, Option, Some, None}

abbrev wants : Option ℕ → Option ℕ → Option ℕ → Option ℕ → Option ℕ → Option ℕ → Option ℕ → Wants
wants y mo d o h mi s =
    record { calendar = record { year = y; month = mo; day = d; ordinal = o }; clock = record { hour = h; minute = mi; second = s }; ticks = 7 }

abbrev told : List ℤ → Outcome (Named ℤ)
told all = done (record { ticks = 7; all = all })

-- of the seconds 23:59:58 to 00:00:01: "::60", "-366T23:59:60", "-12-31T23:59:59", ":00:00", "2016" with all else free, "-02-29"
around : map (λ g. list_of builtin g 63618825698 63618825702) (
    wants None None None None None None (Some 60) ∷
    wants None None None (Some 366) (Some 23) (Some 59) (Some 60) ∷
    wants None (Some 12) (Some 31) None (Some 23) (Some 59) (Some 59) ∷
    wants None None None None None (Some 0) (Some 0) ∷
    wants (Some 2016) None None None None None None ∷
    wants None (Some 2) (Some 29) None None None None ∷ []) ≡
    told (pos 1861920036 ∷ []) ∷
    told (pos 1861920036 ∷ []) ∷
    told (pos 1861920035 ∷ []) ∷
    told (pos 1861920037 ∷ []) ∷
    told (pos 1861920034 ∷ pos 1861920035 ∷ pos 1861920036 ∷ []) ∷
    told [] ∷ []
unfolding list_of covers_window names named_in range up filter cons_if reading_at covers_second day_holding start offset builtin day_fits clock_fits ordinal_on date_in years_to year_start kind row
around = refl
