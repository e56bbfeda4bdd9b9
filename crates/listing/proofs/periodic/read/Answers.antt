-- The P-field's refusal stands, and its layout and start say where the T-field is read.
use Rattle.std.proofs.Common.{◌≡◌, sym, ◌∙◌, ap, Err, rules}
use mir.Syntax.{w64}
use Rattle.base.specs.Outcome.{Outcome, and_then}
use Rattle.base.proofs.Signed.{back}
use Rattle.pfield.specs.declared.Codes.TheVariants.{Cuc}
use Rattle.pfield.specs.declared.Head.{Head}
use Rattle.pfield.proofs.Heads.{start_low}
use Rattle.listing.specs.CucTag.{tag_in, periodic_of}
use Rattle.listing.proofs.CucTags.{other_tag}
use Rattle.listing.proofs.periodic.read.Goals as goal

pub returns-in_err-layout : goal.returns-in_err-layout
unfolding periodic_of
returns-in_err-layout c =
    let a = c.args in
    let e : c.from_residual.result ≡ Err c.in_err-layout.field-0.0 = search rules in
    rw e (ap (λ (x : Outcome Head). and_then x (λ (h : Head). tag_in a.tag.now h.start h.layout)) (rw (back w64 a.epoch c.ranges.epoch) at c.in_err-layout.ensures))

pub returns-in_default : goal.returns-in_default
unfolding periodic_of
returns-in_default c =
    let a = c.args in
    sym (other_tag a.tag.now _ _ c.in_default.not-Cuc) ∙ ap (λ (x : Outcome Head). and_then x (λ (h : Head). tag_in a.tag.now h.start h.layout)) (rw (back w64 a.epoch c.ranges.epoch) at c.in_ok-layout.ensures)

pub read_with-requires : goal.read_with-requires
read_with-requires c =
    let a = c.args in
    start_low Cuc a.epoch a.tag.now a.p c.in_ok-layout.field-0 (sym (rw (back w64 a.epoch c.ranges.epoch) at c.in_ok-layout.ensures))

pub returns : goal.returns
unfolding periodic_of tag_in
returns c =
    let a = c.args in
    c.read_with.ensures
    ∙ sym (ap (tag_in a.tag.now c.in_ok-layout.field-0.start) c.in-Cuc.is)
    ∙ ap (λ (x : Outcome Head). and_then x (λ (h : Head). tag_in a.tag.now h.start h.layout)) (rw (back w64 a.epoch c.ranges.epoch) at c.in_ok-layout.ensures)
