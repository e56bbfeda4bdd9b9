-- A piece that completes nothing is held with what was held before; of any other the first T-field is completed, the others are read where they stand, and the rest is kept.
use mathlib.Core.Path.{◌≡◌}
use Prim.Native.Nat.{◌-◌}
use native.Mathlib.Omega.{arith}
use lib.ListN.{length, take, drop, set, length-drop, length-set}
use lib.Seq.{length-take-le}
use borrow.Author.Rules.{rules}
use Rattle.std.proofs.lemmas.List.{take_rest}
use Rattle.leap.specs.Builtin.{builtin}
use Rattle.codes.specs.Reading.{field_of, width_of}
use Rattle.receiver.specs.Fields.{fields_in}
use Rattle.receiver.specs.Receiver.{run_of}
use Rattle.receiver.specs.Answers.{row_of}
use Rattle.receiver.specs.Inner.{padded}
use Rattle.receiver.proofs.Rows.{others}
use Rattle.receiver.proofs.Runs.{length_fields}
use Rattle.receiver.proofs.Passing.{waits, answers}
use Rattle.receiver.proofs.Receiver.pass.Goals.{Start}
use Rattle.receiver.proofs.Receiver.pass.Goals as goal

size : (s : Start) → length s.args.self.now.pending ≡ 12
size s = search rules

pub returns-then-n-eq0 : goal.returns-then-n-eq0
returns-then-n-eq0 c =
    rw (c.joined.ensures, c.held-held.ensures) (waits c.requires (size (goal.at.returns-then-n-eq0 c).Start) c.if-n-eq0.true)

pub returns : goal.returns
returns c =
    let a = c.args in
    let r = a.self.now in
    let piece = a.piece.now in
    let first = c.row_at.result in
    let fields = fields_in builtin a.l (a.n - 1) (drop (width_of a.l - r.count) piece) in
    let e : first ≡ row_of (field_of builtin (padded 13 (run_of r piece)) 0 a.l) = rw (c.joined-run.ensures, c.held-held.ensures) at c.row_at.ensures in
    let n : length (take (a.n - 1) (drop 1 (set a.rows.now 0 first))) ≡ a.n - 1 =
    length-take-le (a.n - 1) (drop 1 (set a.rows.now 0 first)) (omega (arith, c.requires.room, length-drop 1 (set a.rows.now 0 first), length-set a.rows.now 0 first)) in
    let (f, g) = rw (c.size.ensures, n) at c.go_on-end.ensures in
    let rest = take_rest piece c.go_on-end.result in
    rw (c.joined-2.ensures, rest, f, others first a.rows.now _ fields (a.n - 1) (omega (arith, c.requires.room)) g (length_fields builtin a.l (a.n - 1) (drop (width_of a.l - r.count) piece)))
    (answers c.requires (size (goal.at.returns c).Start) (omega arith) first e)
