-- Where the first bad field of texts, tags and binary codes begins, by computation.
use mathlib.Core.Path.{◌≡◌, refl}
use mathlib.Core.List.{List, [], ◌∷◌, map}
use Prim.Native.Nat.{ℕ}
use lib.IntN.{pos}
use Rattle.octets.specs.Counts.{count_of}
use Rattle.shape.specs.Quoted.{bytes}
use Rattle.shape.specs.Shapes.{shape_of, shaped, begins, along}
use Rattle.calendar.specs.Gregorian.{kind, row, month_length}
use Rattle.cuc.specs.Cuc as U
use Rattle.cds.specs.Cds as D
use Rattle.ccs.specs.Ccs as C
use Rattle.ascii.specs.Shapes.{code_shapes}
use Rattle.ascii.specs.Ascii as A
use Rattle.tag.specs.Forms.{days, months, hours, minutes, tag_shapes}
use Rattle.tag.specs.Tags.{calendar_as, clock_as}
use Rattle.tag.specs.Fields.{fields_of, joint_fields, alone_fields, calendar_fields, time_fields, head_fields, clock_fields}
use Rattle.pfield.specs.PField.{octet, allows, laid, laid_as, cuc_laid, cds_laid, ccs_laid, headed_of}
use Rattle.pfield.specs.declared.Preamble.TheVariants.{Front, Given}
use Rattle.place.specs.Text.{text_place, tag_place}
use Rattle.place.specs.Binary.{fields_at, binary_place, cuc_tag_place}
use Rattle.std.specs.Prelude.{Option, Some, None}

-- ---- ASCII codes: those of wrong shape, and those of right shape, of which the last is good
misshapen : List (List ℕ)
misshapen =
    bytes "2016-12-31T23:59" ∷
    bytes "2016-13-31T23:59" ∷
    bytes "2016-02-30T23:59:59.1234567890123" ∷
    bytes "-12-31T00:00:00" ∷
    bytes "2016-12-31T23:59:59z" ∷ []

misshapen_places : map text_place misshapen ≡ Some 16 ∷ Some 16 ∷ Some 32 ∷ Some 0 ∷ Some 19 ∷ []
unfolding misshapen text_place shaped along begins shape_of code_shapes
misshapen_places = refl

codes : List (List ℕ)
codes =
    bytes "0000-13-32T24:60:61" ∷
    bytes "2015-366T24:60:61" ∷
    bytes "2016-12-31T12:00:60" ∷
    bytes "2016-02-30T24:00:00Z" ∷
    bytes "2016-366T23:59:60.5Z" ∷ []

codes_places : map text_place codes ≡ Some 0 ∷ Some 5 ∷ Some 17 ∷ Some 8 ∷ None ∷ []
unfolding codes text_place shaped shape_of code_shapes A.layout_of kind row month_length
codes_places = refl

-- ---- tags of right shape, the last three of which are good: a field begins at its first digit
tags : List (List ℕ)
tags =
    bytes "-13" ∷
    bytes "--32" ∷
    bytes "-02-30" ∷
    bytes "2023-366" ∷
    bytes "::61" ∷
    bytes ":58:60" ∷
    bytes "22:59:60" ∷
    bytes "2016-12-31T12:00:60" ∷
    bytes "-02-29" ∷
    bytes ":59:60" ∷
    bytes "2016-12-31T23:59:60Z" ∷ []

tags_places : map tag_place tags ≡ Some 1 ∷ Some 2 ∷ Some 4 ∷ Some 5 ∷ Some 2 ∷ Some 4 ∷ Some 6 ∷ Some 17 ∷ None ∷ None ∷ None ∷ []
unfolding tags tag_place shaped shape_of tag_shapes days months hours minutes fields_of joint_fields alone_fields calendar_fields time_fields head_fields clock_fields calendar_as clock_as kind row month_length
tags_places = refl

-- ---- tags of wrong shape: a calendar and a time, a calendar, a time
joined : List (List ℕ)
joined =
    bytes "-12T10" ∷
    bytes "-123T" ∷
    bytes "2016T10" ∷
    bytes "2016-12T10" ∷
    bytes "2016-12-31T" ∷
    bytes "2016-12-31T10.5" ∷ []

joined_places : map tag_place joined ≡ Some 3 ∷ Some 5 ∷ Some 4 ∷ Some 7 ∷ Some 11 ∷ Some 13 ∷ []
unfolding joined tag_place shaped along begins shape_of tag_shapes days months hours minutes
joined_places = refl

calendars : List (List ℕ)
calendars =
    bytes "2016-1231" ∷
    bytes "2016-12-31Z" ∷
    bytes "--" ∷
    bytes "---" ∷
    bytes "123" ∷
    bytes "123:" ∷
    bytes "1234Z" ∷ []

calendars_places : map tag_place calendars ≡ Some 8 ∷ Some 10 ∷ Some 2 ∷ Some 2 ∷ Some 3 ∷ Some 3 ∷ Some 4 ∷ []
unfolding calendars tag_place shaped along begins shape_of tag_shapes days months hours minutes
calendars_places = refl

times : List (List ℕ)
times = bytes "12:" ∷ bytes "::." ∷ bytes "::.Z" ∷ bytes "::.1234567890123" ∷ []

times_places : map tag_place times ≡ Some 3 ∷ Some 3 ∷ Some 3 ∷ Some 15 ∷ []
unfolding times tag_place shaped along begins shape_of tag_shapes days months hours minutes
times_places = refl

-- ---- binary codes with the P octet in front
abbrev front : List ℕ → Option ℕ
front s = binary_place s Front (pos 0)

-- CDS: millisecond 86,401,000 (05 26 5F E8), the longest day's last, and with a remainder of 1,000 microseconds both bad and the remainder alone
cds-places :
    map front (
    (0x40 ∷ 0x54 ∷ 0x2d ∷ 0x05 ∷ 0x26 ∷ 0x5f ∷ 0xe8 ∷ []) ∷
    (0x40 ∷ 0x54 ∷ 0x2d ∷ 0x05 ∷ 0x26 ∷ 0x5f ∷ 0xe7 ∷ []) ∷
    (0x41 ∷ 0x54 ∷ 0x2d ∷ 0x05 ∷ 0x26 ∷ 0x5f ∷ 0xe8 ∷ 0x03 ∷ 0xe8 ∷ []) ∷
    (0x41 ∷ 0x54 ∷ 0x2d ∷ 0x05 ∷ 0x26 ∷ 0x5f ∷ 0xe7 ∷ 0x03 ∷ 0xe8 ∷ []) ∷ [])
    ≡ Some 3 ∷ None ∷ Some 3 ∷ Some 7 ∷ []
unfolding binary_place fields_at headed_of laid laid_as allows cds_laid D.is_width D.width count_of
cds-places = refl

cds_apart : binary_place (0x54 ∷ 0x2d ∷ 0x05 ∷ 0x26 ∷ 0x5f ∷ 0xe8 ∷ []) (Given (octet 0x40)) (pos 0) ≡ Some 2
unfolding binary_place fields_at headed_of laid laid_as allows cds_laid D.is_width D.width count_of
cds_apart = refl

-- CCS: a day that its month lacks before a minute and a second that are bad too; second 60 outside 23:59; the second of three segments; year 0000 and a bad digit in either octet of it; 23:59:60, which is good
ccs-places :
    map front (
    (0x50 ∷ 0x20 ∷ 0x15 ∷ 0x02 ∷ 0x29 ∷ 0x12 ∷ 0x61 ∷ 0x60 ∷ []) ∷
    (0x50 ∷ 0x20 ∷ 0x16 ∷ 0x12 ∷ 0x31 ∷ 0x22 ∷ 0x59 ∷ 0x60 ∷ []) ∷
    (0x53 ∷ 0x20 ∷ 0x16 ∷ 0x12 ∷ 0x31 ∷ 0x23 ∷ 0x59 ∷ 0x60 ∷ 0x00 ∷ 0x0a ∷ 0x0a ∷ []) ∷
    (0x50 ∷ 0x00 ∷ 0x00 ∷ 0x12 ∷ 0x31 ∷ 0x23 ∷ 0x59 ∷ 0x59 ∷ []) ∷
    (0x50 ∷ 0x2a ∷ 0x16 ∷ 0x12 ∷ 0x31 ∷ 0x23 ∷ 0x59 ∷ 0x59 ∷ []) ∷
    (0x50 ∷ 0x20 ∷ 0xa6 ∷ 0x12 ∷ 0x31 ∷ 0x23 ∷ 0x59 ∷ 0x59 ∷ []) ∷
    (0x50 ∷ 0x20 ∷ 0x16 ∷ 0x12 ∷ 0x31 ∷ 0x23 ∷ 0x59 ∷ 0x60 ∷ []) ∷ [])
    ≡ Some 4 ∷ Some 7 ∷ Some 9 ∷ Some 1 ∷ Some 1 ∷ Some 1 ∷ None ∷ []
unfolding binary_place fields_at headed_of laid laid_as allows ccs_laid C.width count_of kind row month_length
ccs-places = refl

-- ---- a CUC tag of one octet, with an extra one and without
cuc_places : (cuc_tag_place (0x10 ∷ 0x00 ∷ 0x00 ∷ []) Front (pos 0) ≡ Some 2) × (cuc_tag_place (0x10 ∷ 0x00 ∷ []) Front (pos 0) ≡ None)
unfolding cuc_tag_place fields_at headed_of laid laid_as allows cuc_laid U.is_width U.width count_of
cuc_places = (refl, refl)
