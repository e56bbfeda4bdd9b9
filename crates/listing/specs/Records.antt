-- A window of records (document 01, "Shortened tags": "The window takes its start and not its end; equal ends give an empty list .. All named moments share one tick count"), for any kind of tag: over any bias B by which seconds are raised, any rule p that names raised seconds, and any tick count k.
use Rattle.std.specs.Prelude.{Bool, true, false, not, map, ◌++◌, ◌≡◌, ℕ, ℤ}
use Rattle.std.specs.Int.Signed.{lt_z}
use Rattle.base.specs.Outcome.{Outcome, need}
use Rattle.base.specs.Parts.{lowered_by}
use Rattle.scale.specs.Time.{Time, is_record, earlier}
use Rattle.window.specs.Among.{Among}
use Rattle.window.specs.Seconds.{raised_by, first_second}
use Rattle.window.specs.Window.{Named, named_in}

-- "Listing: .. then records 7, 9": an invalid record, and the window's end before its start
abbrev pub windowed : {A : Type 0} → Time → Time → Outcome A → Outcome A
windowed from to x = need (is_record from) 7 (need (is_record to) 7 (need (not (earlier to from)) 9 x))

-- the first raised second whose moment at tick k is not before t
unfoldable pub start_at : ℕ → ℕ → Time → ℕ
start_at B k t = first_second (raised_by B t.sec) t.ticks k

-- all that p names at tick k, from `from` on and before `to`
unfoldable pub moments_in : ℕ → (ℕ → Bool) → ℕ → Time → Time → Named ℤ
moments_in B p k from to = record { ticks = k; all = map (lowered_by B) (named_in p (start_at B k from) (start_at B k to)) }

-- ---- in the words of records, for the theorems
-- m is one of the listed: its ticks are the shared count, and its second is in the list
abbrev pub IsListed : Named ℤ → Time → Type 0
IsListed x m = (m.ticks ≡ x.ticks) × Among m.sec x.all

-- m is not before the start, and before the end
abbrev pub Inside : Time → Time → Time → Type 0
Inside from to m = (earlier m from ≡ false) × (earlier m to ≡ true)

-- earlier by its seconds
abbrev pub Sooner : ℤ → ℤ → Type 0
Sooner y z = lt_z y z ≡ true

-- one list followed by another of the same tick count
abbrev pub adjoined : Named ℤ → Named ℤ → Named ℤ
adjoined x y = record { ticks = x.ticks; all = x.all ++ y.all }
