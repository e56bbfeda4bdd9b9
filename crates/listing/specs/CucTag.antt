-- A CUC tag (document 01, "Shortened tags": "A CUC tag is a P octet and exactly its T-field; extra bytes are 4. It names epoch + T + k × 256^c seconds for every whole k of 0 or more, c being the coarse octets and T taken with its fraction").
use Rattle.std.specs.Prelude.{List, ◌≡◌, ℕ, ◌+◌, ◌*◌, ◌%◌, ◌^◌, leb, ℤ, pos, ◌+ℤ◌, length}
use Rattle.base.specs.Outcome.{Outcome, done, refused, need, and_then}
use Rattle.scale.specs.Time.{Time, per_second, worth}
use Rattle.window.specs.Seconds.{raised_by}
use Rattle.window.specs.Window.{Named}
use Rattle.counter.specs.Counter.{names}
use Rattle.cuc.specs.Cuc.{field, width, unit}
use Rattle.cuc.specs.declared.Layout as U
use Rattle.pfield.specs.PField.{headed_of}
use Rattle.pfield.specs.declared.Codes.TheVariants.{Cuc}
use Rattle.pfield.specs.declared.Preamble.{Preamble}
use Rattle.pfield.specs.declared.Layout.{Layout}
use Rattle.pfield.specs.declared.Layout.TheVariants as L
use Rattle.listing.specs.Records.{windowed, moments_in}

-- what a tag says: the first moment that it names, epoch + T, and the seconds from one to the next
pub record Periodic : Type 0 where
  pub first : Time
  pub period : ℕ

-- the T-field from `at` on, read as a code's, is all that is left
unfoldable pub tag_with : List ℕ → ℕ → U.Layout → Outcome Periodic
tag_with s at l = and_then (field s at l) (λ m. need (leb (length s) (at + width l)) 4 (done (record { first = m; period = 256 ^ l.coarse })))

unfoldable pub tag_in : List ℕ → ℕ → Layout → Outcome Periodic
tag_in s at (L.Cuc l) = tag_with s at l
tag_in s at (L.Cds l) = refused 2
tag_in s at (L.Ccs l) = refused 2

-- "the tag as in reading up to 4", but "in a listing any but CUC" is 2
unfoldable pub periodic_of : List ℕ → Preamble → ℤ → Outcome Periodic
periodic_of s p e = and_then (headed_of Cuc s p e) (λ h. tag_in s h.start h.layout)

-- what is listed of a window, seconds being raised by 2^41
unfoldable pub list_periodic : Time → Time → Periodic → Outcome (Named ℤ)
list_periodic from to g =
    windowed from to
    (done (moments_in (2 ^ 41) (names (raised_by (2 ^ 41) g.first.sec) g.period) g.first.ticks from to))

unfoldable pub list_cuc : List ℕ → Preamble → ℤ → Time → Time → Outcome (Named ℤ)
list_cuc s p e from to = and_then (periodic_of s p e) (list_periodic from to)

-- ---- in the words of records, for the theorems
-- m is k periods after the first, for some k
abbrev pub Names : Periodic → Time → Type 0
Names g m = (k : ℕ) × (worth m ≡ worth g.first +ℤ pos (k * g.period * per_second))

-- n being the whole seconds from the epoch to m: n cut to the coarse octets is the tag's count c of seconds, and m's ticks are its f parts
abbrev pub CutTo : U.Layout → ℕ → ℕ → Time → Type 0
CutTo l c f m = (n : ℕ) × ((m.sec ≡ l.epoch +ℤ pos n) × (n % 256 ^ l.coarse ≡ c) × (m.ticks ≡ f * unit l.fine))
