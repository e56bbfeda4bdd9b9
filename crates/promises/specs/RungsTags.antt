-- Listings (document 01: "Listing: the tag as in reading up to 4, then records 7, 9, cover 5").
use Rattle.std.specs.Prelude.{Bool, false, not, ◌&&◌, List, [], ◌∷◌, ℕ, ◌+◌, leb, ℤ, length, drop}
use Rattle.base.specs.Outcome.{Outcome, done, refused}
use Rattle.scale.specs.Time.{Time, is_record, earlier}
use Rattle.leap.specs.Table.{Table}
use Rattle.octets.specs.Places.{octet_good, all_good}
use Rattle.pfield.specs.PField.{ident, allows}
use Rattle.pfield.specs.declared.Codes.TheVariants as Codes
use Rattle.pfield.specs.declared.Preamble.{Preamble}
use Rattle.pfield.specs.declared.Layout.TheVariants.{Cuc}
use Rattle.seek.specs.declared.Wants.{Wants}
use Rattle.tag.specs.Tags.{formed, good_tag}
use Rattle.promises.specs.Octet.{octet_there, octet_in, field_at, unextended}
use Rattle.promises.specs.Rungs.{Rung, rung}
use Rattle.promises.specs.RungsCalendar.{first_covered, past_cover}
use Rattle.promises.specs.RungsBinary.{cuc_epoch_good, cuc_of, octets_of}

-- "invalid record" 7; "window's end before its start" 9
abbrev pub in_order : Time → Time → Bool
in_order from to = not (earlier to from)

-- ---- CUC tags
-- where the T-field of a tag ends
abbrev pub tag_end : List ℕ → Preamble → ℤ → ℕ
tag_end s p e = field_at p + octets_of (Cuc (cuc_of (octet_in s p) e))

-- "A CUC tag is a P octet and exactly its T-field; extra bytes are 4"
abbrev pub tag_good : List ℕ → Preamble → ℤ → Bool
tag_good s p e = all_good octet_good (drop (field_at p) s) (octets_of (Cuc (cuc_of (octet_in s p) e))) && leb (length s) (tag_end s p e)

-- "in a listing any but CUC" is 2, so that of 3 only the extension bit is left
abbrev pub list_cuc_rungs : List ℕ → Preamble → ℤ → Time → Time → List Rung
list_cuc_rungs s p e from to =
    rung 1 (octet_there s p) ∷
    rung 2 (allows Codes.Cuc (ident (octet_in s p))) ∷
    rung 3 (unextended (octet_in s p)) ∷
    rung 7 (cuc_epoch_good (octet_in s p) e) ∷
    rung 1 (leb (tag_end s p e) (length s)) ∷
    rung 4 (tag_good s p e) ∷
    rung 7 (is_record from) ∷
    rung 7 (is_record to) ∷
    rung 9 (in_order from to) ∷ []

-- ---- ASCII tags
-- the text has one of the permitted forms, and its fields are in their ranges
abbrev pub is_tag : Outcome Wants → Bool
is_tag (done t) = good_tag t
is_tag (refused n) = false

-- "An ASCII window starts at or after the first covered moment and ends at or before the first moment past the cover"
abbrev pub in_cover : Table → Time → Time → Bool
in_cover t from to =
    not (earlier from (record { sec = first_covered t; ticks = 0 })) && not (earlier (record { sec = past_cover t; ticks = 0 }) to)

abbrev pub list_ascii_rungs : Table → List ℕ → Time → Time → List Rung
list_ascii_rungs t s from to =
    rung 1 (leb 1 (length s)) ∷
    rung 4 (is_tag (formed s)) ∷
    rung 7 (is_record from) ∷
    rung 7 (is_record to) ∷
    rung 9 (in_order from to) ∷
    rung 5 (in_cover t from to) ∷ []
