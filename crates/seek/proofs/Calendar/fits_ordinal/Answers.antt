use Rattle.std.proofs.Common.{◌≡◌, sym, ◌∙◌}
use Rattle.calendar.specs.Gregorian.{ordinal_on}
use Rattle.base.proofs.Bools.{and_yes, and_no}
use Rattle.base.proofs.Once.{said_done}
use Rattle.seek.proofs.Dates.{ordinal_here}
use Rattle.seek.proofs.Calendar.fits_ordinal.Goals as goal

pub unwrap-shown-requires : goal.unwrap-shown-requires
unwrap-shown-requires c = rw (said_done _ _ (c.ordinal_at.ensures ∙ ordinal_here _ c.requires))

pub returns-then-fits : goal.returns-then-fits
returns-then-fits c =
    let h = said_done _ _ (c.ordinal_at.ensures ∙ ordinal_here _ c.requires) in
    let e : c.unwrap-shown.result ≡ ordinal_on c.args.day = cc in
    rw (← e) (c.fits-then-fits.ensures ∙ sym (and_yes _ (sym c.fits.ensures ∙ c.if-fits.true)))

pub returns-else-fits : goal.returns-else-fits
returns-else-fits c =
    let h = said_done _ _ (c.ordinal_at.ensures ∙ ordinal_here _ c.requires) in
    let e : c.unwrap-shown.result ≡ ordinal_on c.args.day = cc in
    rw (← e) (c.if-fits.false ∙ sym (and_no _ (sym c.fits.ensures ∙ c.if-fits.false)))
