use Rattle.window.proofs.Room.{Filling}
use Rattle.window.proofs.fill.Given as goal

abbrev pub invariant-loop-count : goal.invariant-loop-count
invariant-loop-count g l =
    Filling (g.S.Source.left l.fn.moments) (g.S.Source.left l.moments) l.count l.initial.out l.out
