-- Two answers that meet the contract are one.
use mathlib.Core.Path.{◌≡◌}
use mathlib.Core.List.{List}
use Prim.Native.Nat.{ℕ}
use Rattle.base.specs.Outcome.{and_then}
use Rattle.octets.specs.Writes.{roomed, Wrote}
use Rattle.octets.proofs.Writes.{wrote_once}
use Rattle.moment.specs.declared.Moment.{Moment}
use Rattle.ascii.specs.declared.Layout.{Layout}
use Rattle.ascii.specs.Ascii.{bytes_of}
use Rattle.std.specs.Prelude.{Result}
use Rattle.base.specs.declared.Refusal.{Refusal}

pub write_once : (m : Moment) (l : Layout) (old x y : List ℕ) (at : ℕ) (a b : Result ℕ Refusal) → Wrote (and_then (bytes_of l m) (roomed old at)) at old x a → Wrote (and_then (bytes_of l m) (roomed old at)) at old y b → (a ≡ b) × (x ≡ y)
write_once m l old x y at a b p q = wrote_once (and_then (bytes_of l m) (roomed old at)) at old x y a b p q
