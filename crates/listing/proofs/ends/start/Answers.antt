use borrow.Author.Tests.{lt-ltb, le-ltb}
use native.Mathlib.Omega.{arith}
use Rattle.window.specs.Seconds.{first_second}
use Rattle.listing.specs.Records.{start_at}
use Rattle.listing.proofs.ends.start.Goals as goal

pub returns-then-ticks-r : goal.returns-then-ticks-r
unfolding start_at first_second
returns-then-ticks-r c = let a = c.args in rw (lt-ltb a.ticks a.r.ticks (omega arith)) (omega arith)

pub returns-else-ticks-r : goal.returns-else-ticks-r
unfolding start_at first_second
returns-else-ticks-r c = let a = c.args in rw (le-ltb a.ticks a.r.ticks (omega arith)) (omega arith)
