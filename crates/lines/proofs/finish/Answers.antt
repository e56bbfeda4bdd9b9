use mathlib.Core.Path.{◌≡◌}
use Prim.Native.Nat.{min}
use native.Mathlib.Omega.{arith}
use lib.ListN.{length, length-take}
use Rattle.lines.specs.Says.{held_of}
use Rattle.lines.proofs.Going.{ends_full, ends_none, ends_some}
use borrow.Author.Rules.{rules}
use Rattle.lines.proofs.finish.Goals.{then-out-lt-ROOM-via-then-out-lt-ROOM, then-out-lt-ROOM-via-else-out-lt-ROOM+then-line-eq0}
use Rattle.lines.proofs.finish.Goals as goal

pub returns-then-out-lt-ROOM : goal.returns-then-out-lt-ROOM
returns-then-out-lt-ROOM c =
    let a = c.args in
    elim c.then-out-lt-ROOM.branch [
      | then-out-lt-ROOM-via-then-out-lt-ROOM w ↦ ends_full (held_of a.line) a.out.now w.if-out-lt-ROOM.true
      | then-out-lt-ROOM-via-else-out-lt-ROOM+then-line-eq0 w ↦ ends_none (held_of a.line) a.out.now w.if-out-lt-ROOM.false (omega (arith, w.if-line-eq0.true, length-take (min a.line.len 65) a.line.bytes))
    ]

pub returns : goal.returns
returns c =
    let a = c.args in
    let w : length a.line.bytes ≡ 65 = search rules in
    let (n, e) = rw c.held.ensures at c.answer.ensures in
    ends_some (held_of a.line) a.out.now c.answer.new.out c.answer.result (omega arith) (λ e. omega (arith, length-take (min a.line.len 65) a.line.bytes)) n e
