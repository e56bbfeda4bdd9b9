-- Known makings and pieces, the ends of the state, and a run of leap seconds in every code, by computation.
use mathlib.Core.Path.{◌≡◌, refl}
use mathlib.Core.List.{List, [], ◌∷◌, ◌++◌, map}
use Prim.Native.Nat.{ℕ, ◌-◌, ◌^◌}
use lib.IntN.{pos}
use lib.ListN.{replicate}
use Rattle.base.specs.Parts.{within}
use Rattle.base.specs.Outcome.{Outcome, done, refused, status}
use Rattle.scale.specs.Time.{Time}
use Rattle.octets.specs.Counts.{count_of}
use Rattle.calendar.specs.Gregorian.{kind, year_start, row, month_length, is_date, day_index, index_of_date}
use Rattle.leap.specs.Table.{offset, start, day_length, covers, second_at}
use Rattle.leap.specs.Builtin.{builtin}
use Rattle.leap.specs.Utc as L
use Rattle.utc.specs.Reckoning.{time_of}
use Rattle.cuc.specs.Cuc as U
use Rattle.cds.specs.Cds as D
use Rattle.ccs.specs.Ccs as C
use Rattle.pfield.specs.PField.{octet, allows, laid, laid_as, cuc_laid, cds_laid, ccs_laid}
use Rattle.receiver.specs.Fields.{fields_in, answers_in, left_in}
use Rattle.receiver.specs.Receiver.{holding, is_state, made_of, layout_of, Fate, feed_of, next_of}
use Rattle.receiver.specs.declared.Receiver.{Receiver}

-- "epoch 7 only if the code uses one": CUC from 1958 is made with the largest epoch, and one from the caller's is 7 from 2^40 on; 2, then 3, then 7
known_makings : map (λ (p : ℕ). status (made_of (octet p) (pos (2 ^ 63 - 1)))) (0x1c ∷ 0x2c ∷ 0x40 ∷ 0x48 ∷ 0x5e ∷ 0x5f ∷ 0xac ∷ 0xb0 ∷ []) ≡ 0 ∷ 7 ∷ 0 ∷ 7 ∷ 0 ∷ 3 ∷ 3 ∷ 2 ∷ []
unfolding laid laid_as allows cuc_laid cds_laid ccs_laid within
known_makings = refl

known_epochs : (status (made_of (octet 0x2c) (pos (2 ^ 40))) ≡ 7) × (status (made_of (octet 0x2c) (pos (2 ^ 40 - 1))) ≡ 0)
unfolding laid laid_as allows cuc_laid cds_laid ccs_laid within
known_epochs = (refl, refl)

-- ---- CDS: 54 2D 05 26, and then 5F E8 54 2D 05 26, of which the millisecond is one past the longest day's
abbrev day : List ℕ
day = 0x54 ∷ 0x2d ∷ 0x05 ∷ 0x26 ∷ []

abbrev cds : List ℕ → Receiver
cds h = holding (octet 0x40) (pos 0) h

known_cut : (feed_of builtin (cds []) day 0 ≡ done (record { answers = []; left = day })) × (feed_of builtin (cds day) (0x5f ∷ 0xe8 ∷ day) 0 ≡ refused 8) × (next_of (cds day) (feed_of builtin (cds day) (0x5f ∷ 0xe8 ∷ day) 0) ≡ cds day) × (feed_of builtin (cds day) (0x5f ∷ 0xe8 ∷ day) 1 ≡ done (record { answers = refused 4 ∷ []; left = day }))
unfolding feed_of layout_of is_state answers_in left_in fields_in laid laid_as allows cuc_laid cds_laid ccs_laid within D.is_width D.width D.field D.moment_by count_of
known_cut = (refl, refl, refl, refl)

-- ---- 2016-12-31T23:59:60 by CUC, CDS and CCS, twice, with the first octets of a third
abbrev leap : Outcome Time
leap = done (record { sec = pos 1861920036; ticks = 0 })

abbrev fed : ℕ → List ℕ → Outcome Fate
fed p piece = feed_of builtin (holding (octet p) (pos 0) []) piece 2

known_cuc : fed 0x1c (0x6e ∷ 0xfa ∷ 0xa5 ∷ 0x24 ∷ 0x6e ∷ 0xfa ∷ 0xa5 ∷ 0x24 ∷ 0x6e ∷ []) ≡ done (record { answers = leap ∷ leap ∷ []; left = 0x6e ∷ [] })
unfolding feed_of layout_of is_state answers_in left_in fields_in laid laid_as allows cuc_laid cds_laid ccs_laid within U.is_width U.width U.field count_of
known_cuc = refl

-- a good T-field, and those that are 4, 5 and 6, each of its length
known_ccs : feed_of builtin (holding (octet 0x50) (pos 0) (0x20 ∷ 0x16 ∷ 0x12 ∷ [])) (0x31 ∷ 0x23 ∷ 0x59 ∷ 0x60 ∷ 0x20 ∷ 0x16 ∷ 0x12 ∷ 0x31 ∷ 0x12 ∷ 0x00 ∷ 0x60 ∷ 0x20 ∷ 0x26 ∷ 0x01 ∷ 0x01 ∷ 0x00 ∷ 0x00 ∷ 0x00 ∷ 0x20 ∷ 0x15 ∷ 0x12 ∷ 0x31 ∷ 0x23 ∷ 0x59 ∷ 0x60 ∷ []) 4 ≡ done (record { answers = leap ∷ refused 4 ∷ refused 5 ∷ refused 6 ∷ []; left = [] })
unfolding feed_of layout_of is_state answers_in left_in fields_in laid laid_as allows cuc_laid cds_laid ccs_laid within C.width C.day_at C.clock_at C.field count_of time_of L.second_of_utc L.second_of L.lifted_by second_at covers day_length start offset builtin kind year_start row month_length is_date day_index index_of_date
known_ccs = refl

-- ---- states: CCS with 6 segments has 13 octets, so that 12 can be pending and 13 can't; as many as the T-field has; an octet behind those pending
abbrev stated : ℕ → ℕ → List ℕ → ℕ
stated p n s = status (layout_of (record { p = octet p; epoch = pos 0; pending = s; count = n }))

known_states : (stated 0x56 12 (replicate 12 9) ≡ 0) × (stated 0x56 13 (replicate 12 9) ≡ 7) × (stated 0x40 6 (replicate 12 0) ≡ 7) × (stated 0x40 5 (replicate 12 0) ≡ 0) × (stated 0x40 0 (replicate 11 0 ++ 1 ∷ []) ≡ 7) × (stated 0x47 99 [] ≡ 3) × (stated 0xf0 99 [] ≡ 2)
unfolding layout_of is_state laid laid_as allows cuc_laid cds_laid ccs_laid within D.is_width D.width C.width
known_states = (refl, refl, refl, refl, refl, refl, refl)
