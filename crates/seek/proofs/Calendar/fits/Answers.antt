use Rattle.std.proofs.Common.{sym, ◌∙◌}
use Rattle.base.proofs.Bools.{and_yes, and_no}
use Rattle.seek.proofs.Dates.{in_pairs}
use Rattle.seek.proofs.Calendar.fits.Goals as goal

pub returns-then-fits_ordinal : goal.returns-then-fits_ordinal
returns-then-fits_ordinal c =
    c.fits_date.ensures ∙ sym (in_pairs _ _ ∙ and_yes _ (sym c.fits_ordinal.ensures ∙ c.if-fits_ordinal.true))

pub returns-else-fits_ordinal : goal.returns-else-fits_ordinal
returns-else-fits_ordinal c =
    c.if-fits_ordinal.false ∙ sym (in_pairs _ _ ∙ and_no _ (sym c.fits_ordinal.ensures ∙ c.if-fits_ordinal.false))
