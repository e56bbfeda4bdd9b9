-- Each part is put in behind the one before it.
use mathlib.Core.Path.{◌≡◌}
use lib.ListN.{length}
use mir.Syntax.{w64}
use mir.Val.{to_z, of_z}
use Rattle.base.specs.Parts.{bits_of}
use Rattle.octets.specs.Places.{octets, octet_of}
use Rattle.octets.proofs.Places.{length_places}
use Rattle.octets.proofs.Pastes.{copied}
use Rattle.honigzange.proofs.States.{put_in}
use native.Mathlib.Omega.{arith}
use borrow.Author.Rules.{rules}
use Rattle.honigzange.proofs.receivers.state_of.Goals.{Start}
use Rattle.honigzange.proofs.receivers.state_of.Goals as goal

size : (s : Start) → length s.args.r.pending ≡ 12
size s = search rules

pub returns : goal.returns
returns c =
    let r = c.args.r in
    let e : to_z w64 (of_z w64 r.epoch) ≡ r.epoch = search rules in
    let b : c.unsigned.result ≡ bits_of r.epoch = rw e at c.unsigned.ensures in
    let n = size (goal.at.returns c).Start in
    put_in r.p.octet r.count (octets 8 (bits_of r.epoch)) r.pending _ _ _ (length_places 256 octet_of 8 (bits_of r.epoch)) n (rw b at c.put_count.ensures) (copied _ r.pending _ 10 12 c.copy_from_slice.ensures.after (omega arith))
