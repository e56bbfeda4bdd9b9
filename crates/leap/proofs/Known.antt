-- Computed examples: around the last inserted second, the cover's ends, and a table that removes a second and goes below 0.
use Prim.Native.Nat.{ℕ}
use mathlib.Core.Path.{◌≡◌, refl}
use mathlib.Core.Bool.{true}
use mathlib.Core.List.{[], ◌∷◌, map}
use lib.IntN.{ℤ, pos, negsuc}
use Rattle.base.specs.Outcome.{Outcome, done, refused}
use Rattle.leap.specs.declared.Utc.{Utc}
use Rattle.leap.specs.Table.{Table, good, offset, start, day_length, day_holding, covers, covers_second, second_at, reading_at, day_at}
use Rattle.leap.specs.Builtin.{builtin}
use Rattle.leap.specs.Utc.{lifted_by, reading_of, second_of, utc_of_second, second_of_utc}

abbrev reads : ℤ → ℕ → ℤ → Outcome Utc
reads d x o = done (record { day = d; second = x; offset = o })

-- 2016-12-31T23:59:59, :60, 2017-01-01T00:00:00; the first and last covered second; one past each
around : map (utc_of_second builtin) (pos 1861920035 ∷ pos 1861920036 ∷ pos 1861920037 ∷ pos 441763210 ∷ pos 2145916836 ∷ pos 441763209 ∷ pos 2145916837 ∷ negsuc 9223372036854775807 ∷ []) ≡ reads (pos 21549) 86399 (pos 36) ∷ reads (pos 21549) 86400 (pos 36) ∷ reads (pos 21550) 0 (pos 37) ∷ reads (pos 5113) 0 (pos 10) ∷ reads (pos 24836) 86399 (pos 37) ∷ refused 5 ∷ refused 5 ∷ refused 5 ∷ []
unfolding utc_of_second reading_of lifted_by reading_at covers_second day_holding start offset builtin
around = refl

-- back, and 4, 5 and 6 in their order
abbrev at : Table → ℤ → ℕ → Outcome ℤ
at t d x = second_of_utc t d x

there : (at builtin (pos 21549) 86400 ≡ done (pos 1861920036)) × (at builtin (pos 21550) 0 ≡ done (pos 1861920037)) × (at builtin (pos 24837) 86401 ≡ refused 4) × (at builtin (pos 24837) 86400 ≡ refused 5) × (at builtin (negsuc 0) 0 ≡ refused 5) × (at builtin (pos 24836) 86400 ≡ refused 6)
unfolding second_of_utc second_of lifted_by second_at covers day_length start offset builtin
there = (refl, refl, refl, refl, refl, refl)

-- the day of an inserted second, the next one, the last covered one, and one past it
days : map (day_at builtin) (736328 ∷ 736329 ∷ 739615 ∷ 739616 ∷ []) ≡ done (record { start = 63618739300; length = 86401 }) ∷ done (record { start = 63618825701; length = 86400 }) ∷ done (record { start = 63902736101; length = 86400 }) ∷ refused 5 ∷ []
unfolding day_at covers day_length start offset builtin
days = refl

-- from offset 0 a second is removed at the end of day 0, before 1958 one is inserted: the day is a second short, its 86,399 is 6, and the offset is -1
unfoldable removed : Table
removed = record { first = record { day = 714000; offset = 63 }; later = record { day = 714300; offset = 64 } ∷ record { day = 714780; offset = 63 } ∷ []; last = 715000 }

removed_good : good removed ≡ true
unfolding removed
removed_good = refl

removed_second : (at removed (pos 0) 86398 ≡ done (pos 86398)) × (at removed (pos 0) 86399 ≡ refused 6) × (at removed (pos 1) 0 ≡ done (pos 86399)) × (utc_of_second removed (pos 86399) ≡ reads (pos 1) 0 (negsuc 0)) × (at removed (negsuc 479) 86400 ≡ done (negsuc 41385600)) × (utc_of_second removed (negsuc 41385600) ≡ reads (negsuc 479) 86400 (negsuc 0))
unfolding removed utc_of_second reading_of lifted_by reading_at covers_second day_holding second_of_utc second_of second_at covers day_length start offset
removed_second = (refl, refl, refl, refl, refl, refl)
