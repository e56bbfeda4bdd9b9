use mathlib.Core.Path.{refl}
use Rattle.ascii.specs.Ascii.{day_text}
use Rattle.ascii_write.proofs.Puts.{date_ok, date_is}
use Rattle.ascii_write.proofs.date_text.Goals as goal

pub unwrap-t-requires : goal.unwrap-t-requires
unwrap-t-requires c = rw (date_ok _ _ c.requires c.date_at.ensures) refl

pub returns : goal.returns
unfolding day_text
returns c =
    rw (c.four_digits.ensures, c.two_digits.ensures, c.two_digits-2.ensures, date_is _ _ _ c.requires c.date_at.ensures c.unwrap-t.ensures)
    refl
