-- Both fractions are turned over, and the numerators, which are the next denominators, fall.
use Prim.Native.Nat.{◌+◌}
use Rattle.drift.proofs.+less.Given as goal

abbrev pub decreases-less : goal.decreases-less
decreases-less l = l.an + l.bn
