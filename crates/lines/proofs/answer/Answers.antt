use native.Mathlib.Omega.{arith}
use Rattle.leap.specs.Builtin.{builtin}
use Rattle.lines.specs.Answer.{outcome_of}
use Rattle.lines.proofs.Texts.{done_length, Shown, refused_line, written_line}
use Rattle.lines.proofs.answer.Goals.{In-Ok}
use Rattle.lines.proofs.answer.Goals as goal

-- the write, and what it told
shown : (c : In-Ok) → Shown (outcome_of builtin c.args.line.now) 0 c.args.out.now c.rewrite.new.out c.in-Ok.end
shown c =
    let a = c.args in
    written_line (outcome_of builtin a.line.now) 0 a.out.now (omega arith) (done_length a.line.now) c.in-Ok.end c.rewrite.new.out c.rewrite.result c.in-Ok.is c.rewrite.ensures

pub bounds-out-end : goal.bounds-out-end
bounds-out-end c = (shown (goal.at.bounds-out-end c).In-Ok).within

pub overflow_add-result : goal.overflow_add-result
overflow_add-result c = omega (arith, (shown (goal.at.overflow_add-result c).In-Ok).within)

pub returns-in-Ok : goal.returns-in-Ok
returns-in-Ok c = let s = shown (goal.at.returns-in-Ok c).In-Ok in (omega (arith, s.past), s.put)

pub returns-in-Err : goal.returns-in-Err
returns-in-Err c =
    let a = c.args in
    let (e, g) = refused_line (outcome_of builtin a.line.now) 0 a.out.now (omega arith) (done_length a.line.now) c.in-Err.why c.rewrite.new.out c.rewrite.result c.in-Err.is c.rewrite.ensures in
    (rw g c.refuse.ensures.0, rw (g, ← e) c.refuse.ensures.1)
