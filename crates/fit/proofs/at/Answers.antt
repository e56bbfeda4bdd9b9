-- All states are computed at once, from the list of permitted shapes.
use mathlib.Core.Path.{◌≡◌, refl}
use mathlib.Core.Bool.{true, false}
use lib.ListN.{get_or}
use Rattle.std.specs.Prelude.{None}
use Rattle.shape.proofs.Tests.{down_to, down_at}
use Rattle.shape.specs.Shapes.{shaped, shape_of}
use Rattle.ascii.specs.Shapes.{code_shapes}
use Rattle.tag.specs.Forms.{days, months, hours, minutes, tag_shapes}
use Rattle.fit.specs.declared.State.{State}
use Rattle.fit.specs.declared.TheConstants.{STATES}
use Rattle.fit.specs.Inner.{live, right}
use Rattle.fit.proofs.at.Goals as goal

no_state : State
no_state = record { 0 = None; 1 = None; 2 = None; 3 = None; 4 = None; 5 = None; 6 = false }

all_right : down_to 71 (λ q. right q (get_or STATES q no_state)) ≡ true
unfolding right live code_shapes tag_shapes days months hours minutes shaped shape_of
all_right = refl

pub returns : goal.returns
unfolding no_state
returns c = down_at 71 (λ q. right q (get_or STATES q no_state)) all_right c.args.state c.requires
