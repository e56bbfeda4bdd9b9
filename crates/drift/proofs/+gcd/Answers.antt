use Rattle.std.proofs.lemmas.Nat.Gcd.{IsGcd-from_mod}
use Rattle.drift.proofs.+gcd.Goals as goal

pub returns : goal.returns
returns t c = IsGcd-from_mod _ _ _ c.gcd.ensures
