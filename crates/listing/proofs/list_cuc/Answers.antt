use Rattle.std.proofs.Common.{◌≡◌, sym, ap, Err, rules}
use mir.Syntax.{w64}
use Rattle.base.specs.Outcome.{Outcome, and_then}
use Rattle.base.proofs.Signed.{back}
use Rattle.scale.specs.Answers.{recorded}
use Rattle.window.proofs.Room.{lists_refused}
use Rattle.listing.specs.CucTag.{Periodic, list_periodic, list_cuc}
use Rattle.listing.proofs.CucTags.{tag_good_lem}
use Rattle.listing.proofs.list_cuc.Goals as goal

pub returns-in_err-tag : goal.returns-in_err-tag
unfolding list_cuc
returns-in_err-tag c =
    let a = c.args in
    let e : c.from_residual.result ≡ Err c.in_err-tag.field-0.0 = search rules in
    rw e (lists_refused _ _ _ (ap (λ (x : Outcome Periodic). and_then x (list_periodic (recorded a.from) (recorded a.to))) (sym (rw (back w64 a.epoch c.ranges.epoch) at c.in_err-tag.ensures))))

pub list_periodic-requires : goal.list_periodic-requires
list_periodic-requires c =
    let a = c.args in
    tag_good_lem a.tag.now a.p a.epoch _ (sym (rw (back w64 a.epoch c.ranges.epoch) at c.in_ok-tag.ensures))

pub returns : goal.returns
unfolding list_cuc
returns c = rw (sym (rw (back w64 c.args.epoch c.ranges.epoch) at c.in_ok-tag.ensures)) c.list_periodic.ensures
