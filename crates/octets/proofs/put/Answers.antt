use mathlib.Core.Path.{◌≡◌, sym}
use mathlib.Core.Bool.{false}
use Prim.Native.Nat.{◌+◌}
use lib.Dec.{leb}
use lib.ListN.{length}
use native.Mathlib.Omega.{arith}
use Rattle.octets.proofs.Turns.{stay, step, finish}
use Rattle.octets.proofs.put.Goals as goal

pub returns-then-not-fits : goal.returns-then-not-fits
returns-then-not-fits g c =
    let a = c.args in
    let e : leb (a.at + a.w) (length a.out.now) ≡ false = sym c.if-not-fits.ensures in
    stay _ g.P.Place.element a.at a.out.now a.w a.n e

pub loop-i-preserved : goal.loop-i-preserved
loop-i-preserved g c = rw (c.element.ensures, c.BASE.ensures, c.BASE-left.ensures) (step c.loop-i.invariant (omega arith))

pub returns : goal.returns
returns g c = finish c.loop-i.invariant (omega arith)
