use mathlib.Core.Logic.{inl}
use mathlib.Core.Path.{◌≡◌}
use Prim.Native.Nat.{◌+◌}
use native.Mathlib.Omega.{arith}
use Rattle.leap.specs.Builtin.{builtin}
use Rattle.leap.proofs.Counted.{turn, day_fits, ended}
use Rattle.leap.proofs.CoveredSecond.row.Goals as goal

pub returns-then-self-ge-LAST_ROW_BEGINS : goal.returns-then-self-ge-LAST_ROW_BEGINS
unfolding builtin
returns-then-self-ge-LAST_ROW_BEGINS c =
    record { row = omega arith; low = c.if-self-ge-LAST_ROW_BEGINS.true; high = c.args.self.before_end }

pub loop-leap-init : goal.loop-leap-init
unfolding builtin
loop-leap-init c = record { row = omega arith; end = omega arith; low = omega arith; high = inl (omega arith) }

pub begin-requires : goal.begin-requires
begin-requires c = day_fits c.loop-leap.leap-index (omega arith)

pub loop-leap-preserved : goal.loop-leap-preserved
loop-leap-preserved c = turn _ c.loop-leap.begun c.loop-leap.leap-index _ c.begin.ensures (omega arith) (omega arith) c.loop-leap.invariant

pub returns : goal.returns
unfolding builtin
returns c =
    let e : c.loop-leap.leap-index + 1 ≡ 28 = omega (arith, c.loop-leap.invariant.end) in
    let w = rw e at c.loop-leap.invariant in
    record { row = w.row; low = w.low; high = ended _ c.loop-leap.begun c.args.self.before_end w }
