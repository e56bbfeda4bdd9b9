use mathlib.Core.Path.{◌≡◌, sym, ◌∙◌}
use mir.Syntax.{w64}
use Rattle.base.proofs.Signed.{back}
use Rattle.base.specs.Said.{said}
use Rattle.pfield.specs.PField.{headed_of}
use Rattle.pfield.specs.declared.Codes.TheVariants.{All}
use Rattle.place.specs.Binary.{place_in, binary_place}
use Rattle.place.proofs.Heads.{head_low, head_none, head_some}
use Rattle.place.proofs.in_binary.Goals.{After-read}
use Rattle.place.proofs.in_binary.Goals as goal

-- what the P-field said, at the epoch itself
told : (c : After-read) → let a = c.args in said c.read.result ≡ headed_of All a.s.now a.p a.epoch
told c = rw (back w64 c.args.epoch c.ranges.epoch) at c.read.ensures

pub returns-in_err-layout : goal.returns-in_err-layout
unfolding binary_place
returns-in_err-layout c =
    let a = c.args in
    c.from_residual.ensures ∙ head_none All a.s.now a.p a.epoch c.read.result (told (goal.at.returns-in_err-layout c).After-read) (place_in a.s.now) (sym c.ok.ensures.value ∙ c.in_err-layout.was)

pub behind-requires : goal.behind-requires
behind-requires c =
    let a = c.args in
    head_low All a.s.now a.p a.epoch c.read.result (told (goal.at.behind-requires c).After-read) c.in_ok-layout.field-0 (sym c.ok.ensures.value ∙ c.in_ok-layout.was)

pub returns : goal.returns
unfolding binary_place
returns c =
    let a = c.args in
    c.behind.ensures ∙ head_some All a.s.now a.p a.epoch c.read.result (told (goal.at.returns c).After-read) (place_in a.s.now) c.in_ok-layout.field-0 (sym c.ok.ensures.value ∙ c.in_ok-layout.was)
