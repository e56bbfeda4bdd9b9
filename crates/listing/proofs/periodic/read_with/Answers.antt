use Rattle.std.proofs.Common.{◌≡◌, sym, Err, arith, rules}
use Rattle.listing.proofs.CucTags.{tag_short, tag_long, tag_whole, tag_power, width_low}
use Rattle.listing.proofs.periodic.read_with.Goals as goal

pub returns-in_err-first : goal.returns-in_err-first
returns-in_err-first c =
    let a = c.args in
    let e : c.from_residual.result ≡ Err c.in_err-first.field-0.0 = search rules in
    rw e (sym (tag_short a.tag.now a.at a.layout _ (sym c.in_err-first.ensures)))

pub overflow_add-end : goal.overflow_add-end
overflow_add-end c = omega (arith, width_low c.args.layout)

pub returns-then-end-tag : goal.returns-then-end-tag
returns-then-end-tag c =
    let a = c.args in
    sym (tag_long a.tag.now a.at a.layout _ (sym c.in_ok-first.ensures) (omega (arith, c.size.ensures)))

pub returns : goal.returns
returns c =
    let a = c.args in
    rw (c.power256-period.ensures, tag_power a.tag.now a.at a.layout _ (sym c.in_ok-first.ensures))
    (sym (tag_whole a.tag.now a.at a.layout _ (sym c.in_ok-first.ensures) (omega (arith, c.size.ensures))))
