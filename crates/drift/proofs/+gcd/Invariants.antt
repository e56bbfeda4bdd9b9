-- A turn of Euclid keeps the common divisors, and the second number falls.
use Rattle.drift.proofs.+gcd.Given as goal

abbrev pub decreases-gcd : goal.decreases-gcd
decreases-gcd l = l.b
