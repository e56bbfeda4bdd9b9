use mathlib.Core.Path.{ap, ◌∙◌}
use Prim.Native.Nat.{◌+◌}
use Rattle.octets.specs.Counts.{bcd_at}
use Rattle.place.proofs.Numbers.{number_of, date_read, ordinal_read}
use Rattle.place.proofs.in_date.Goals as goal

pub returns-then-ordinal : goal.returns-then-ordinal
returns-then-ordinal c =
    let a = c.args in
    rw c.if-ordinal.true
    (c.in_ordinal.ensures
    ∙ rw (c.unwrap_or-year.ensures, ap number_of c.bcd.ensures, c.unwrap_or-of_year.ensures, ap number_of c.bcd-then-ordinal.ensures)
    (ordinal_read (bcd_at a.s.now a.at 2) (bcd_at a.s.now (a.at + 2) 2)))

pub returns : goal.returns
returns c =
    let a = c.args in
    rw c.if-ordinal.false
    (c.in_date.ensures
    ∙ rw (c.unwrap_or-year.ensures, ap number_of c.bcd.ensures, c.unwrap_or-month.ensures, ap number_of c.bcd-2.ensures, c.unwrap_or-day.ensures, ap number_of c.bcd-3.ensures)
    (date_read (bcd_at a.s.now a.at 2) (bcd_at a.s.now (a.at + 2) 1) (bcd_at a.s.now (a.at + 3) 1)))
