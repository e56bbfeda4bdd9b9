-- What the private functions answer. No promise cites these.
use Rattle.std.specs.Prelude.{List, map, ℕ, ◌^◌, ℤ}
use Rattle.base.specs.Parts.{lowered_by}
use Rattle.window.specs.Window.{named_in}
use Rattle.counter.specs.Counter.{names}

-- the moments at, at + period, and so on, that are before `to`
abbrev pub left : ℕ → ℕ → ℕ → List ℤ
left at period to = map (lowered_by (2 ^ 41)) (named_in (names at period) at to)
