use mathlib.Core.Path.{ap}
use Rattle.base.specs.Said.{said}
use Rattle.honigzange.proofs.States.{few_next}
use Rattle.honigzange.proofs.receivers.hz_receive.Goals as goal

pub state_of-requires : goal.state_of-requires
state_of-requires c = few_next _ _ _ _ _ _ c.feed-fed.ensures (ap said c.in-Ok.is)
