-- The loop's invariant: of the rows before row leap-index + 1, row begun is the last that has begun.
use Prim.Native.Nat.{◌+◌}
use Rattle.leap.proofs.Counted.{Counted}
use Rattle.leap.proofs.CoveredSecond.row.Given as goal

abbrev pub invariant-loop-leap : goal.invariant-loop-leap
invariant-loop-leap l = Counted l.fn.self.raised l.begun (l.leap-index + 1)
