-- A T-field's two counts, stored one after the other.
use mathlib.Core.Path.{◌≡◌, ap, ◌∙◌}
use mathlib.Core.Bool.{Bool}
use mathlib.Core.List.{List, ◌++◌}
use Prim.Native.Nat.{ℕ, ◌+◌, ◌<◌, ◌≤◌}
use native.Mathlib.Omega.{arith}
use lib.ListN.{length, length-append}
use Rattle.base.specs.declared.Refusal.TheVariants.{Room}
use Rattle.octets.specs.Places.{octet_of, octets}
use Rattle.octets.specs.Stores.{pasted, Stored}
use Rattle.octets.specs.Writes.{roomed, Wrote}
use Rattle.octets.proofs.Places.{length_places}
use Rattle.octets.proofs.Pastes.{length_pasted, then, stored}
use Rattle.octets.proofs.Writes.{refuses, room_in, room_out, fills}
use Rattle.cuc.specs.Cuc.{in_octets}
use Rattle.cuc.specs.declared.Layout.{Layout}
use Rattle.std.specs.Prelude.{Ok, Err}

module _ (l : Layout) (c f : ℕ) where
  pub length_laid : length (in_octets l c f) ≡ l.coarse + l.fine
  unfolding in_octets
  length_laid = simp length-append (omega (arith, length_places 256 octet_of l.coarse c, length_places 256 octet_of l.fine f))

  module _ (at : ℕ) (old : List ℕ) where
    pub laid_out : length old < at + (l.coarse + l.fine) → Wrote (roomed old at (in_octets l c f)) at old old (Err Room)
    laid_out h = refuses Room _ at old (room_out (in_octets l c f) at old (omega (arith, length_laid)))

    pub laid_in : {mid new : List ℕ} {p q : Bool} → at + (l.coarse + l.fine) ≤ length old → Stored (octets l.coarse c) at old mid p → Stored (octets l.fine f) (at + l.coarse) mid new q → Wrote (roomed old at (in_octets l c f)) at old new (Ok (at + (l.coarse + l.fine)))
    unfolding in_octets
    laid_in {mid} {new} h s t =
        let A = octets l.coarse c in
        let B = octets l.fine f in
        let a : length A ≡ l.coarse = length_places 256 octet_of l.coarse c in
        let b : length B ≡ l.fine = length_places 256 octet_of l.fine f in
        let e : mid ≡ pasted old at A = (stored (omega arith) s).1 in
        let n : length mid ≡ length old = ap length e ∙ length_pasted old at A (omega arith) in
        let d : new ≡ pasted old at (A ++ B) = then old A B at (at + l.coarse) e (stored (omega arith) t).1 (omega arith) (omega arith) in
        fills (in_octets l c f) _ at _ old new (room_in (in_octets l c f) at old (omega (arith, length_laid))) (omega (arith, length_laid)) d
