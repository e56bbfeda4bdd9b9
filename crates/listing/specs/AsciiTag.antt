-- What an ASCII tag lists of a window of records (document 01, "Shortened tags": "An ASCII window starts at or after the first covered moment and ends at or before the first moment past the cover, equal ends too; else 5").
use Rattle.std.specs.Prelude.{Bool, not, ◌&&◌, List, ℕ, ◌+◌, ℤ}
use Rattle.base.specs.Outcome.{Outcome, done, need, and_then}
use Rattle.base.specs.Parts.{lowered_by}
use Rattle.scale.specs.Time.{Time, earlier}
use Rattle.leap.specs.Table.{Table, start}
use Rattle.leap.specs.Utc.{second_raise}
use Rattle.window.specs.Window.{Named}
use Rattle.seek.specs.declared.Wants.{Wants}
use Rattle.seek.specs.Naming.{names}
use Rattle.tag.specs.Tags.{want_of}
use Rattle.listing.specs.Records.{windowed, moments_in}

-- the first moment of a raised second
abbrev pub onset : ℕ → Time
onset s = record { sec = lowered_by second_raise s; ticks = 0 }

unfoldable pub covered : Table → Time → Time → Bool
covered t from to = not (earlier from (onset (start t t.first.day))) && not (earlier (onset (start t (t.last + 1))) to)

-- "records 7, 9, cover 5"
unfoldable pub list_wanted : Table → Time → Time → Wants → Outcome (Named ℤ)
list_wanted t from to g = windowed from to (need (covered t from to) 5 (done (moments_in second_raise (names t g) g.ticks from to)))

-- "the tag as in reading up to 4"
unfoldable pub list_ascii : Table → List ℕ → Time → Time → Outcome (Named ℤ)
list_ascii t s from to = and_then (want_of s) (list_wanted t from to)
