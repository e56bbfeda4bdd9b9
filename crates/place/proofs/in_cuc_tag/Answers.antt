use mathlib.Core.Path.{◌≡◌, sym, ap, ◌∙◌}
use mathlib.Core.List.{List}
use Prim.Native.Nat.{ℕ}
use mir.Syntax.{w64}
use Rattle.std.proofs.Common.{rules, tests}
use Rattle.std.specs.Prelude.{Option}
use Rattle.base.proofs.Signed.{back}
use Rattle.base.specs.Said.{said}
use Rattle.pfield.specs.PField.{headed_of}
use Rattle.pfield.specs.declared.Codes.TheVariants.{Cuc}
use Rattle.pfield.specs.declared.Layout.{Layout}
use Rattle.field.specs.Fields.{first_bad, or_then}
use Rattle.tag.proofs.Standing.{or_told}
use Rattle.place.specs.Binary.{place_in, end_field, cuc_tag_place}
use Rattle.place.proofs.Heads.{head_none, head_some}
use Rattle.place.proofs.in_cuc_tag.Goals.{After-read}
use Rattle.place.proofs.in_cuc_tag.Goals as goal

-- what the P-field said, at the epoch itself
told : (c : After-read) → let a = c.args in said c.read.result ≡ headed_of Cuc a.s.now a.p a.epoch
told c = rw (back w64 c.args.epoch c.ranges.epoch) at c.read.ensures

abbrev both : List ℕ → ℕ → Layout → Option ℕ
both s at l = or_then (place_in s at l) (first_bad (end_field s at l))

pub returns-in_err-layout : goal.returns-in_err-layout
unfolding cuc_tag_place
returns-in_err-layout c =
    let a = c.args in
    c.from_residual.ensures ∙ head_none Cuc a.s.now a.p a.epoch c.read.result (told (goal.at.returns-in_err-layout c).After-read) (both a.s.now) (sym c.ok.ensures.value ∙ c.in_err-layout.was)

pub returns : goal.returns
unfolding cuc_tag_place
returns c =
    let a = c.args in
    let h = c.in_ok-layout.field-0 in
    or_told c.or_else.result c.behind.result (first_bad (end_field a.s.now h.start h.layout)) (λ e. search (rules, tests)) (λ n e. search (rules, tests))
    ∙ ap (λ (p : Option ℕ). or_then p (first_bad (end_field a.s.now h.start h.layout))) c.behind.ensures
    ∙ head_some Cuc a.s.now a.p a.epoch c.read.result (told (goal.at.returns c).After-read) (both a.s.now) h (sym c.ok.ensures.value ∙ c.in_ok-layout.was)
