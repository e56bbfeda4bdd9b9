use mathlib.Core.Path.{ap, ◌∙◌}
use mathlib.Core.List.{◌++◌}
use native.Mathlib.Omega.{arith}
use lib.ListN.{take}
use Rattle.lines.specs.Says.{held_of}
use Rattle.lines.proofs.Texts.{length_answer}
use Rattle.lines.proofs.Going.{held_small, held_kept, holds_all, goes_first}
use Rattle.lines.proofs.feed.Goals.{then-end-piece-via-then-end-piece, then-end-piece-via-else-end-piece+then-out-lt-ROOM}
use Rattle.lines.proofs.feed.Goals as goal

pub returns-then-end-piece : goal.returns-then-end-piece
returns-then-end-piece c =
    let a = c.args in
    let n = c.find-end in
    rw c.join-first.ensures (holds_all (held_of a.line) a.piece.now a.out.now (held_small a.line.len a.line.bytes) n.result n.ensures.0 n.ensures.2 (λ h. elim c.then-end-piece.branch [
      | then-end-piece-via-then-end-piece w ↦ absurd (omega (arith, w.if-end-piece.true))
      | then-end-piece-via-else-end-piece+then-out-lt-ROOM w ↦ w.if-out-lt-ROOM.true
    ]))

pub go_on-requires : goal.go_on-requires
go_on-requires c = (omega arith, omega (arith, length_answer))

pub returns : goal.returns
returns c =
    let a = c.args in
    let n = c.find-end in
    let h = c.held.ensures ∙ ap held_of c.join-first.ensures ∙ held_kept (held_of a.line ++ take n.result a.piece.now) in
    let (k, e) = rw h at c.answer-wrote.ensures in
    goes_first (held_of a.line) a.piece.now a.out.now (held_small a.line.len a.line.bytes) n.result c.answer-wrote.result c.answer-wrote.new.out c.go_on.new.out c.go_on.result n.ensures.0 (omega arith) (omega arith) k e c.go_on.ensures
