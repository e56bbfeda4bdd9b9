-- What the private functions ask and answer. No promise cites these.
use Rattle.std.specs.Prelude.{◌≡◌, true, ◌^◌, ◌<◌, ◌≤◌}
use Rattle.base.specs.Parts.{plus, minus}
use Rattle.cds.specs.Cds.{is_layout, parts}
use Rattle.cds.specs.declared.Layout.{Layout}

-- a layout of the code, and its parts
pub record Good (l : Layout) : Type 0 where
  pub is : is_layout l ≡ true
  pub low : minus l.epoch ≤ 2 ^ 24
  pub high : plus l.epoch < 2 ^ 24
  pub day : l.day ≤ 3
  pub part : l.part ≤ 4
  pub fit : parts l.part ≤ 256 ^ l.part
