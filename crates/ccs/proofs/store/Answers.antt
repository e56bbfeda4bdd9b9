use borrow.Author.Rules.{rules}
use Rattle.ccs.proofs.Rungs.{no_room, wrote}
use Rattle.ccs.proofs.store.Goals as goal

pub returns-then-not-fits : goal.returns-then-not-fits
returns-then-not-fits c =
    let a = c.args in
    no_room a.l c.requires a.out.now a.at a.date a.clock a.part (search rules)

pub returns : goal.returns
returns c =
    let a = c.args in
    rw c.size-2.ensures
    (wrote a.l c.requires a.out.now a.at a.date a.clock a.part (search rules) c.put_bcd.ensures c.put_bcd-2.ensures c.put_bcd-3.ensures)
