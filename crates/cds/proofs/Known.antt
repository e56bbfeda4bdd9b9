-- Each refusal of CDS in its order, and the ends of the ranges, by computation, beside the known times of crate `known`.
use mathlib.Core.Path.{◌≡◌, refl}
use mathlib.Core.List.{List, [], ◌∷◌, map}
use Prim.Native.Nat.{ℕ}
use lib.IntN.{ℤ, pos, negsuc}
use Rattle.base.specs.Parts.{within}
use Rattle.base.specs.Outcome.{Outcome, done, refused}
use Rattle.octets.specs.Counts.{count_of}
use Rattle.moment.specs.Moment.{moment, is_moment}
use Rattle.moment.specs.declared.Moment.{Moment}
use Rattle.cds.specs.Cds.{is_width, width, moment_by, field, held, in_octets, bytes_of}
use Rattle.cds.specs.declared.Layout.{Layout}

abbrev layout : ℤ → ℕ → ℕ → Layout
layout e d p = record { epoch = e; day = d; part = p }

-- by an epoch day of 21,549, with microseconds: the last microsecond of 23:59:60; one more of the millisecond, 4; a millisecond past it, 4; 23:59:60 on the next day, and on the last day that 16 bits have, which no table is asked about; one octet less, 1
abbrev reads : List ℕ → Outcome Moment
reads s = field s 0 (layout (pos 21549) 2 2)

known_reads : map reads ((0 ∷ 0 ∷ 0x05 ∷ 0x26 ∷ 0x5f ∷ 0xe7 ∷ 0x03 ∷ 0xe7 ∷ []) ∷ (0 ∷ 0 ∷ 0x05 ∷ 0x26 ∷ 0x5f ∷ 0xe7 ∷ 0x03 ∷ 0xe8 ∷ []) ∷ (255 ∷ 255 ∷ 0x05 ∷ 0x26 ∷ 0x5f ∷ 0xe8 ∷ 0 ∷ 0 ∷ []) ∷ (0 ∷ 1 ∷ 0x05 ∷ 0x26 ∷ 0x5c ∷ 0 ∷ 0 ∷ 0 ∷ []) ∷ (255 ∷ 255 ∷ 0x05 ∷ 0x26 ∷ 0x5c ∷ 0 ∷ 0 ∷ 0 ∷ []) ∷ (0 ∷ 0 ∷ 0 ∷ 0 ∷ 0 ∷ 0 ∷ 0 ∷ []) ∷ []) ≡ done (moment (pos 21549) 86400 4095995904000000) ∷ refused 4 ∷ refused 4 ∷ done (moment (pos 21550) 86400 0) ∷ done (moment (pos 87084) 86400 0) ∷ refused 1 ∷ []
unfolding field moment_by is_width width count_of within
known_reads = refl

-- the first and the last epoch day: the first day from it and the last; a millisecond past the day, 4
known_ends : (field (0 ∷ 0 ∷ 0 ∷ 0 ∷ 0 ∷ 0 ∷ []) 0 (layout (negsuc 16777215) 2 0) ≡ done (moment (negsuc 16777215) 0 0)) × (field (0 ∷ 0 ∷ 0x05 ∷ 0x26 ∷ 0x5f ∷ 0xe8 ∷ []) 0 (layout (negsuc 16777215) 2 0) ≡ refused 4) × (field (255 ∷ 255 ∷ 255 ∷ 0 ∷ 0 ∷ 0 ∷ 1 ∷ 0 ∷ 0 ∷ 0 ∷ 1 ∷ []) 0 (layout (pos 16777215) 3 4) ≡ done (moment (pos 33554430) 0 4096000004096))
unfolding field moment_by is_width width count_of within
known_ends = (refl, refl, refl)

-- no such octets, then no such epoch day, though the bytes run out too
no_layout : (field [] 0 (layout (pos 16777216) 2 0) ≡ refused 7) × (field [] 0 (layout (negsuc 16777216) 2 0) ≡ refused 7) × (field [] 0 (layout (pos 16777216) 4 0) ≡ refused 3) × (field [] 0 (layout (pos 0) 2 1) ≡ refused 3) × (field [] 0 (layout (negsuc 16777215) 3 4) ≡ refused 1)
unfolding field is_width width within
no_layout = (refl, refl, refl, refl, refl)

-- downward: a tick less than the next picosecond and microsecond
known_floor : (bytes_of (layout (pos 21549) 2 4) (moment (pos 21549) 86400 4095999999999999) ≡ done (0 ∷ 0 ∷ 0x05 ∷ 0x26 ∷ 0x5f ∷ 0xe7 ∷ 0x3b ∷ 0x9a ∷ 0xc9 ∷ 0xff ∷ [])) × (bytes_of (layout (pos 21549) 2 2) (moment (pos 21549) 86400 4095999999999999) ≡ done (0 ∷ 0 ∷ 0x05 ∷ 0x26 ∷ 0x5f ∷ 0xe7 ∷ 0x03 ∷ 0xe7 ∷ []))
unfolding bytes_of is_width held in_octets within is_moment
known_floor = (refl, refl)

-- a day before the epoch, 7, and the last and the first past what 16 bits hold
known_held : (bytes_of (layout (pos 21550) 2 0) (moment (pos 21549) 86400 0) ≡ refused 7) × (bytes_of (layout (negsuc 43985) 2 0) (moment (pos 21549) 86400 0) ≡ done (255 ∷ 255 ∷ 0x05 ∷ 0x26 ∷ 0x5c ∷ 0 ∷ [])) × (bytes_of (layout (negsuc 43986) 2 0) (moment (pos 21549) 86400 0) ≡ refused 7)
unfolding bytes_of is_width held in_octets within is_moment
known_held = (refl, refl, refl)

-- a moment that is none, 7, by its second and by its ticks; no such octets before it, 3
known_none : (bytes_of (layout (pos 0) 2 0) (moment (pos 0) 86401 0) ≡ refused 7) × (bytes_of (layout (pos 0) 2 0) (moment (pos 0) 0 4096000000000000) ≡ refused 7) × (bytes_of (layout (pos 0) 1 0) (moment (pos 0) 86401 0) ≡ refused 3)
unfolding bytes_of is_width held in_octets within is_moment
known_none = (refl, refl, refl)
