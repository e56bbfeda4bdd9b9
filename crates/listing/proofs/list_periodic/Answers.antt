use Rattle.std.proofs.Common.{◌≡◌, sym, Err, arith, rules}
use Rattle.scale.specs.Answers.{recorded}
use Rattle.window.proofs.Room.{lists_refused}
use Rattle.listing.specs.CucTag.{list_periodic}
use Rattle.listing.specs.Inner.{periodic_as}
use Rattle.listing.proofs.Windows.{ends_told, ends_refused}
use Rattle.listing.proofs.CucTags.{lists_by}
use Rattle.listing.proofs.list_periodic.Goals as goal

pub returns-in_err-start : goal.returns-in_err-start
unfolding list_periodic
returns-in_err-start c =
    let a = c.args in
    let e : c.from_residual.result ≡ Err c.in_err-start.field-0.0 = search rules in
    rw e (lists_refused _ _ _ (ends_refused (recorded a.from) (recorded a.to) a.tag.first.ticks _ _ (sym c.in_err-start.ensures)))

pub returns : goal.returns
returns c =
    let a = c.args in
    let v = c.requires.valid in
    let (o, f, t) = ends_told (recorded a.from) (recorded a.to) a.tag.first.ticks _ _ (sym c.in_ok-start.ensures) in
    lists_by (recorded a.from) (recorded a.to) (periodic_as a.tag) c.requires o c.list.ensures f t (omega (arith, c.raised-base.ensures))
