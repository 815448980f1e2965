-- `coding::gcd` ends: the measure is the second number, which a remainder by it is below. Assumes nothing.
use Rattle.coding.proofs.+gcd.Given as goal

abbrev pub decreases-gcd : goal.decreases-gcd
decreases-gcd l = l.b
