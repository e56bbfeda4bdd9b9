use native.Mathlib.Omega.{arith}
use Rattle.ascii_write.proofs.Puts.{put_mark}
use Rattle.ascii_write.proofs.Writer.put_lead.Goals as goal

pub returns-clause-puts : goal.returns-clause-puts
returns-clause-puts c =
    let a = c.args in
    put_mark a.self.now.out.now a.self.now.at a.digits a.part (omega arith) c.put_decimal.ensures
