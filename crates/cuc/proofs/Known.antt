-- T-fields, and the ends of what a layout is and holds, by computation, beside the known times of crate `known`.
use mathlib.Core.Path.{◌≡◌, refl}
use mathlib.Core.List.{List, [], ◌∷◌, map}
use Prim.Native.Nat.{ℕ, ◌^◌}
use lib.IntN.{ℤ, pos, negsuc}
use Rattle.base.specs.Outcome.{done, refused}
use Rattle.base.specs.Parts.{within}
use Rattle.scale.specs.Time.{Time, good}
use Rattle.octets.specs.Counts.{count_of}
use Rattle.cuc.specs.Cuc.{is_width, width, field, holds, in_octets, bytes_of}
use Rattle.cuc.specs.declared.Layout.{Layout}

abbrev time : ℤ → ℕ → Time
time s n = record { sec = s; ticks = n }

abbrev layout : ℤ → ℕ → ℕ → Layout
layout e c f = record { epoch = e; coarse = c; fine = f }

-- 2016-12-31T23:59:60 with a byte before it and one after
abbrev second : List ℕ
second = 110 ∷ 250 ∷ 165 ∷ 36 ∷ []

between : field (28 ∷ 110 ∷ 250 ∷ 165 ∷ 36 ∷ 9 ∷ []) 1 (layout (pos 0) 4 0) ≡ done (time (pos 1861920036) 0)
unfolding is_width within width field good count_of
between = refl

-- an epoch of its own, before 1958: the ends of one coarse octet, and past each
abbrev near : Layout
near = layout (negsuc 9) 1 0

ends : map (bytes_of near) (time (negsuc 9) 0 ∷ time (pos 245) 4095999999999999 ∷ time (negsuc 10) 4095999999999999 ∷ time (pos 246) 0 ∷ time (pos 0) 4096000000000000 ∷ []) ≡ done (0 ∷ []) ∷ done (255 ∷ []) ∷ refused 7 ∷ refused 7 ∷ refused 7 ∷ []
unfolding is_width within holds in_octets bytes_of good
ends = refl

-- bytes that run out; no such octets, then no such epoch, though the bytes run out too; and a record is tested before the layout
refusals : (field second 1 (layout (pos 0) 4 0) ≡ refused 1) × (map (field [] 0) (layout (pos 0) 0 0 ∷ layout (pos 0) 5 0 ∷ layout (pos (2 ^ 40)) 1 4 ∷ layout (pos (2 ^ 40)) 1 0 ∷ layout (negsuc (2 ^ 40)) 1 0 ∷ layout (negsuc 1099511627775) 1 0 ∷ []) ≡ refused 3 ∷ refused 3 ∷ refused 3 ∷ refused 7 ∷ refused 7 ∷ refused 1 ∷ []) × (bytes_of (layout (pos 0) 0 0) (time (pos 0) 0) ≡ refused 3) × (bytes_of (layout (pos 0) 0 0) (time (pos 0) 4096000000000000) ≡ refused 7)
unfolding is_width within width field bytes_of good count_of
refusals = (refl, refl, refl, refl)
