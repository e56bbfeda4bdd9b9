-- Two answers that meet a contract are one. The size promises an equation `r ≡ ..`, which is this already.
use mathlib.Core.Path.{◌≡◌}
use mathlib.Core.List.{List}
use Prim.Native.Nat.{ℕ}
use Rattle.base.specs.Outcome.{and_then}
use Rattle.scale.specs.Time.{Time}
use Rattle.scale.specs.Answers.{Record, says_record}
use Rattle.scale.proofs.Once.{record_once}
use Rattle.octets.specs.Writes.{roomed, Wrote}
use Rattle.octets.proofs.Writes.{wrote_once}
use Rattle.cuc.specs.Cuc.{field, bytes_of}
use Rattle.cuc.specs.declared.Layout.{Layout}
use Rattle.std.specs.Prelude.{Result}
use Rattle.base.specs.declared.Refusal.{Refusal}

pub read_once : (s : List ℕ) (at : ℕ) (l : Layout) (a b : Result Record Refusal) → says_record a ≡ field s at l → says_record b ≡ field s at l → a ≡ b
read_once s at l a b p q = record_once (field s at l) a b p q

pub write_once : (l : Layout) (r : Time) (at : ℕ) (old new new' : List ℕ) (a b : Result ℕ Refusal) → Wrote (and_then (bytes_of l r) (roomed old at)) at old new a → Wrote (and_then (bytes_of l r) (roomed old at)) at old new' b → (a ≡ b) × (new ≡ new')
write_once l r at old new new' a b p q = wrote_once (and_then (bytes_of l r) (roomed old at)) at old new new' a b p q
