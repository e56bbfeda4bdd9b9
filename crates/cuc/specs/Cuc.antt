-- The T-field of CUC (document 01, "The codes"): which layouts there are, what moment a field names, and what bytes a moment is written as.
use Rattle.std.specs.Prelude.{◌≡◌, Bool, cond, ◌&&◌, List, ◌++◌, ℕ, ◌+◌, ◌-◌, ◌*◌, ◌/◌, ◌^◌, leb, ℤ, pos, neg_ℤ, ◌+ℤ◌, ◌-ℤ◌, length}
use Rattle.base.specs.Outcome.{Outcome, done, need, and_then, given}
use Rattle.base.specs.Parts.{plus, within}
use Rattle.scale.specs.Time.{Time, per_second, is_record}
use Rattle.octets.specs.Places.{octets}
use Rattle.octets.specs.Counts.{count_at}
use Rattle.cuc.specs.declared.Layout.{Layout}
use Rattle.base.specs.Said.{said}

-- "caller's epoch, whole TAI seconds, -2^40 to 2^40 - 1"
abbrev pub is_epoch : ℤ → Bool
is_epoch e = within (neg_ℤ (pos (2 ^ 40))) (pos (2 ^ 40 - 1)) e

-- "Bits 4-5: coarse octets less one. Bits 6-7: fine octets, 0 to 3"
unfoldable pub is_width : Layout → Bool
is_width l = leb 1 l.coarse && (leb l.coarse 4 && leb l.fine 3)

unfoldable pub is_layout : Layout → Bool
is_layout l = is_width l && is_epoch l.epoch

-- "3, epoch 7": octets that no P octet gives, then an invalid epoch
abbrev pub settled : {A : Type 0} → Layout → Outcome A → Outcome A
settled l x = need (is_width l) 3 (need (is_epoch l.epoch) 7 x)

-- the octets of a T-field, and 0 where there is no such layout
unfoldable pub width : Layout → ℕ
width l = cond (is_width l) (l.coarse + l.fine) 0

-- the ticks of one part of a second, which is 256^-f seconds
abbrev pub unit : ℕ → ℕ
unit f = per_second / 256 ^ f

-- ---- reading
-- the time that is c whole seconds and f parts of a second after the epoch
abbrev pub time_of : Layout → ℕ → ℕ → Time
time_of l c f = record { sec = l.epoch +ℤ pos c; ticks = f * unit l.fine }

-- "Big-endian count from the epoch": the coarse octets from `at` on count the seconds, the fine ones after them the parts; "Order when reading: .. 3, epoch 7 .., short T 1"
unfoldable pub field : List ℕ → ℕ → Layout → Outcome Time
field s at l =
    settled l
    (need (leb (at + width l) (length s)) 1
    (and_then (said (count_at s at l.coarse)) (λ c.
    given (time_of l c) (said (count_at s (at + l.coarse) l.fine)))))

-- the times that T-fields of a layout read to
abbrev pub Reads : Layout → Time → Type 0
Reads l x = (s : List ℕ) × (field s 0 l ≡ done x)

-- ---- writing
-- the whole seconds from the epoch to a time, downward: its ticks are above them
abbrev pub since : Layout → Time → ℤ
since l t = t.sec -ℤ l.epoch

-- "A target holds a source when its count of whole seconds from the epoch, taken downward (CUC), .. is not negative and fits the field"
unfoldable pub holds : Layout → Time → Bool
holds l t = within (pos 0) (pos (256 ^ l.coarse - 1)) (since l t)

-- "The writer takes the fraction downward": the whole parts in a time's ticks
abbrev pub parts_of : Layout → Time → ℕ
parts_of l t = t.ticks / unit l.fine

-- a T-field of its two counts
unfoldable pub in_octets : Layout → ℕ → ℕ → List ℕ
in_octets l c f = octets l.coarse c ++ octets l.fine f

-- the T-field of a time
abbrev pub coded : Layout → Time → List ℕ
coded l t = in_octets l (plus (since l t)) (parts_of l t)

-- "Writing: record 7, then .. 3, epoch 7, .. target 7"
unfoldable pub bytes_of : Layout → Time → Outcome (List ℕ)
bytes_of l t = need (is_record t) 7 (settled l (need (holds l t) 7 (done (coded l t))))

-- the target has the second of a source, by the times that its T-fields read to
abbrev pub Holds : Layout → Time → Type 0
Holds l r = (x : Time) × ((Reads l x) × (x.sec ≡ r.sec))
