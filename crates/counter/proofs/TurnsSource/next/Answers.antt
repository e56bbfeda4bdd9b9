use Rattle.std.proofs.Common.{◌≡◌, ◌^◌, ◌+◌, ◌∷◌, rules, arith}
use mir.Syntax.{w64}
use mir.Val.{to_z, of_z}
use Rattle.base.specs.Parts.{lowered_by}
use Rattle.base.proofs.Signed.{lower_at}
use Rattle.counter.specs.Inner.{left}
use Rattle.counter.proofs.Onward.{over, turn}
use Rattle.counter.proofs.TurnsSource.next.Goals as goal

pub returns-then-self : goal.returns-then-self
returns-then-self c = let e = over _ c.args.self.now.period _ c.if-self.true in (e, e)

-- the moment at which the turn stands, and the rest
one : (c : goal.After-self-1) → left c.args.self.now.at c.args.self.now.period c.args.self.now.to ≡ to_z w64 (of_z w64 c.lowered-moment.result) ∷ left (c.args.self.now.at + c.args.self.now.period) c.args.self.now.period c.args.self.now.to
one c =
    let s = c.args.self.now in
    let e : to_z w64 (of_z w64 c.lowered-moment.result) ≡ c.lowered-moment.result = search rules in
    let l : lowered_by (2 ^ 41) s.at ≡ c.lowered-moment.result = lower_at (2 ^ 41) s.at c.lowered-moment.result (omega (arith, c.lowered-moment.ensures)) in
    rw (e, ← l) (turn s.at s.period s.to s.some c.if-self.false)

pub returns : goal.returns
returns c = one c
