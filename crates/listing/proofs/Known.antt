-- The ends of a window, and the order of refusals, by computation, beside the known listings of crate `known`.
use mathlib.Core.Path.{◌≡◌, refl}
use mathlib.Core.List.{[], ◌∷◌, map}
use Prim.Native.Nat.{ℕ, ◌^◌}
use lib.IntN.{ℤ, pos, negsuc}
use Rattle.base.specs.Outcome.{Outcome, done, status}
use Rattle.base.specs.Parts.{within}
use Rattle.scale.specs.Time.{Time, good}
use Rattle.window.specs.Seconds.{first_second}
use Rattle.window.specs.Window.{Named, named_in, filter, cons_if, range, up}
use Rattle.counter.specs.Counter.{names}
use Rattle.octets.specs.Counts.{count_of}
use Rattle.cuc.specs.Cuc.{is_width, width, field}
use Rattle.pfield.specs.PField.{allows, laid, laid_as, cuc_laid, octet, headed_of}
use Rattle.pfield.specs.declared.Preamble.TheVariants.{Front, Given}
use Rattle.listing.specs.Records.{start_at, moments_in}
use Rattle.listing.specs.CucTag.{tag_with, tag_in, periodic_of, list_periodic, list_cuc}

abbrev time : ℤ → ℕ → Time
time s n = record { sec = s; ticks = n }

-- one coarse octet and a fine one of a half: at its ends a window takes the half second that it starts at, and not the one that it ends at; a caller's epoch before 1958
abbrev half : ℕ
half = 2048000000000000

abbrev halves : Time → Time → Outcome (Named ℤ)
halves from to = list_cuc (0 ∷ 128 ∷ []) (Given (octet 17)) (pos 0) from to

ends : (halves (time (pos 0) half) (time (pos 256) half) ≡ done (record { ticks = half; all = pos 0 ∷ [] })) × (halves (time (pos 0) 2048000000000001) (time (pos 256) 2048000000000001) ≡ done (record { ticks = half; all = pos 256 ∷ [] })) × (halves (time (pos 1) 0) (time (pos 1) 0) ≡ done (record { ticks = half; all = [] })) × (list_cuc (32 ∷ 0 ∷ []) Front (negsuc 9) (time (negsuc 99) 0) (time (pos 300) 0) ≡ done (record { ticks = 0; all = negsuc 9 ∷ pos 246 ∷ [] }))
unfolding is_width within width field good count_of allows laid laid_as cuc_laid headed_of tag_with tag_in periodic_of list_periodic list_cuc start_at moments_in first_second names named_in filter cons_if range up
ends = (refl, refl, refl, refl)

-- the order of refusals: what is refused breaks later rules too; last, equal ends and an epoch that the code does not use
abbrev bad : Time
bad = time (pos 0) 4096000000000000

abbrev late : Time
late = time (pos 5) 0

abbrev soon : Time
soon = time (pos 4) 0

refusals : map status (list_cuc [] Front (pos (2 ^ 40)) bad bad ∷ list_cuc [] (Given (octet 176)) (pos (2 ^ 40)) bad bad ∷ list_cuc [] (Given (octet 192)) (pos (2 ^ 40)) bad bad ∷ list_cuc [] (Given (octet 67)) (pos (2 ^ 40)) bad bad ∷ list_cuc [] (Given (octet 87)) (pos (2 ^ 40)) bad bad ∷ list_cuc [] (Given (octet 160)) (pos (2 ^ 40)) bad bad ∷ list_cuc [] (Given (octet 32)) (pos (2 ^ 40)) bad bad ∷ list_cuc [] (Given (octet 32)) (pos 0) bad bad ∷ list_cuc (0 ∷ 0 ∷ []) (Given (octet 16)) (pos (2 ^ 40)) bad bad ∷ list_cuc (0 ∷ []) (Given (octet 16)) (pos (2 ^ 40)) bad soon ∷ list_cuc (0 ∷ []) (Given (octet 16)) (pos (2 ^ 40)) late bad ∷ list_cuc (0 ∷ []) (Given (octet 16)) (pos (2 ^ 40)) late soon ∷ list_cuc (0 ∷ []) (Given (octet 16)) (pos (2 ^ 40)) late late ∷ []) ≡ 1 ∷ 2 ∷ 2 ∷ 2 ∷ 2 ∷ 3 ∷ 7 ∷ 1 ∷ 4 ∷ 7 ∷ 7 ∷ 9 ∷ 0 ∷ []
unfolding is_width within width field good count_of allows laid laid_as cuc_laid headed_of tag_with tag_in periodic_of list_periodic list_cuc start_at moments_in first_second names named_in filter cons_if range up
refusals = refl
