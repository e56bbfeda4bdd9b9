-- Two outcomes that meet a contract are the same: the answer, the receiver and the lent rows.
use mathlib.Core.Path.{◌≡◌, sym, ◌∙◌}
use mathlib.Core.List.{List}
use lib.IntN.{ℤ}
use Rattle.base.specs.Outcome.{Outcome, given}
use Rattle.base.proofs.Once.{said_once}
use Rattle.receiver.specs.Receiver.{Fate}
use Rattle.receiver.specs.Answers.{count_of, none_by, Feeds, Makes}
use Rattle.receiver.specs.declared.Fed.{Fed}
use Rattle.receiver.specs.declared.Receiver.{Receiver}

fed : (f g : Fed) → f.answer ≡ g.answer → f.next ≡ g.next → f ≡ g
fed f g a n = λ i. record { answer = a i; next = n i }

pub feed_once : (x : Outcome Fate) (r : Receiver) (old new new' : List (List ℤ)) (f g : Fed) → Feeds x r old new f → Feeds x r old new' g → (f ≡ g) × (new ≡ new')
feed_once x r old new new' f g a b =
    (fed f g (said_once (given count_of x) f.answer g.answer a.answer b.answer) (a.next ∙ sym b.next), a.rows ∙ sym b.rows)

pub make_once : (x : Outcome Receiver) (fresh : Receiver) (f g : Fed) → Makes x fresh f → Makes x fresh g → f ≡ g
make_once x fresh f g a b =
    fed f g (said_once (given none_by x) f.answer g.answer a.answer b.answer) (a.next ∙ sym b.next)
