use Rattle.std.proofs.Common.{◌≡◌, ◌+◌, ◌∷◌, arith, rules}
use mir.Syntax.{w64}
use mir.Val.{to_z, of_z}
use Rattle.base.specs.Parts.{lowered_by}
use Rattle.base.proofs.Signed.{lower_at}
use Rattle.leap.specs.Utc.{second_raise}
use Rattle.seek.specs.Inner.{left}
use Rattle.seek.proofs.Onward.{none_left, next_left, found_from}
use Rattle.seek.proofs.MomentsSource.next.Goals as goal

pub returns-in_err-found : goal.returns-in_err-found
returns-in_err-found c =
    let e = none_left _ _ _ c.in_err-found.ensures in rw c.from_residual.ensures (e, e)

pub overflow_add-self : goal.overflow_add-self
overflow_add-self c = omega (arith, found_from _ _ _ _ c.in_ok-found.ensures)

pub invariant_of-self : goal.invariant_of-self
invariant_of-self c =
    let s = c.args.self.now in
    record { covered = (omega (arith, found_from _ _ _ _ c.in_ok-found.ensures), s.covered.1); ends = s.ends }

pub overflow_add-found : goal.overflow_add-found
overflow_add-found c = omega (arith, found_from _ _ _ _ c.in_ok-found.ensures)

-- the moment found, and the rest
one : (c : goal.After-lowered) → left c.args.self.now.wants c.args.self.now.at c.args.self.now.to ≡ to_z w64 (of_z w64 c.lowered.result) ∷ left c.args.self.now.wants (c.in_ok-found.found + 1) c.args.self.now.to
one c =
    let e : to_z w64 (of_z w64 c.lowered.result) ≡ c.lowered.result = search rules in
    let l : lowered_by second_raise c.in_ok-found.found ≡ c.lowered.result = lower_at second_raise c.in_ok-found.found c.lowered.result (omega (arith, c.lowered.ensures)) in
    rw (e, ← l) (next_left _ _ _ _ c.in_ok-found.ensures)

pub returns : goal.returns
returns c = one c
