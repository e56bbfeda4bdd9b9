-- A list filled from a source: what it has written, and what the source has left.
use Rattle.std.proofs.Common.{◌≡◌, refl, ℕ, ◌≤◌, List, length, Option, Some, None, Ok, is_some, true}
use Rattle.std.specs.Iterator.{YieldsFirst}
use Rattle.base.specs.Outcome.{done}
use Rattle.window.specs.Window.{Lists}
use Rattle.window.proofs.Room.{Filling, fill_full, fill_done}

-- the last that it is asked for tells whether a further one remains
pub all_filled : {S A : Type 0} (left : S → List A) (s t : S) {all entry out : List A} {n : ℕ} (r : Option A) (k : ℕ) → YieldsFirst left s r t → (is_some r ≡ true → length entry ≤ n) → Filling all (left s) n entry out → Lists (done (record { ticks = k; all = all })) entry out (Ok (record { ticks = k; count = n; more = is_some r }))
all_filled left s t None k q h f = fill_done q.0 f k
all_filled left s t (Some x) k q h f = fill_full x q (h refl) f k
