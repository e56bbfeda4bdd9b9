-- What the private functions ask and answer. No promise cites these.
use Rattle.std.specs.Prelude.{◌≡◌, true, ◌^◌, ◌<◌, ◌≤◌}
use Rattle.base.specs.Parts.{plus, minus}
use Rattle.cuc.specs.Cuc.{is_layout}
use Rattle.cuc.specs.declared.Layout.{Layout}

-- a layout that there is, and its parts
pub record Good (l : Layout) : Type 0 where
  pub is : is_layout l ≡ true
  pub some : 1 ≤ l.coarse
  pub narrow : l.coarse ≤ 4
  pub short : l.fine ≤ 3
  pub low : minus l.epoch ≤ 2 ^ 40
  pub high : plus l.epoch < 2 ^ 40
