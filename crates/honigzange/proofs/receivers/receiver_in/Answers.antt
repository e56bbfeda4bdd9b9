use mathlib.Core.Path.{◌≡◌, ◌∙◌}
use lib.ListN.{length, drop}
use mir.Syntax.{w64}
use mir.Val.{to_z, of_z}
use borrow.Author.Rules.{rules}
use Rattle.std.proofs.lemmas.List.{take_rest}
use Rattle.honigzange.proofs.receivers.receiver_in.Goals as goal

pub returns : goal.returns
returns c =
    let s = c.args.state in
    let n : length s ≡ 22 = search rules in
    let p : c.copy_from_slice.new.self ≡ drop 10 s = c.copy_from_slice.ensures.after ∙ rw n at (take_rest s 10) in
    let e : to_z w64 (of_z w64 c.epoch_in.result) ≡ c.epoch_in.result = search rules in
    rw (p, e, c.epoch_in.ensures)
