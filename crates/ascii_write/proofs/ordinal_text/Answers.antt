use mathlib.Core.Path.{refl, sym, ap, ◌∙◌}
use Rattle.base.specs.Said.{said}
use mathlib.Core.List.{◌∷◌, ◌++◌}
use native.Mathlib.Omega.{arith}
use Rattle.calendar.proofs.Promises.{ordinal_fields_lem}
use Rattle.octets.specs.Places.{digits}
use Rattle.ascii.specs.Ascii.{day_text}
use Rattle.ascii_write.proofs.Puts.{ordinal_ok, ordinal_is, three}
use Rattle.ascii_write.proofs.ordinal_text.Goals as goal

pub unwrap-o-requires : goal.unwrap-o-requires
unwrap-o-requires c = rw (ordinal_ok _ _ c.requires c.ordinal_at.ensures) refl

pub returns : goal.returns
unfolding day_text
returns c =
    let o = c.unwrap-o.result in
    let d = three o.day (omega (arith, ordinal_fields_lem c.args.day o (sym c.ordinal_at.ensures ∙ ap said c.unwrap-o.ensures))) in
    rw (c.four_digits.ensures, c.two_digits.ensures, ordinal_is _ _ _ c.requires c.ordinal_at.ensures c.unwrap-o.ensures)
    (ap (λ x. digits 4 o.year ++ (45 ∷ x)) d)
