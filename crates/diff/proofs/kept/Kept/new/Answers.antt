-- `diff::kept::Kept::new` meets its contract. Assumes nothing.
use native.Mathlib.Omega.{arith}
use Rattle.std.proofs.lemmas.Bool.Decides.{nat_tests}
use Rattle.diff.proofs.Biased.{within-near, within-far}
use Rattle.diff.proofs.kept.Kept.new.Goals as goal

pub returns-then-contains : goal.returns-then-contains
returns-then-contains c = within-near _ (record { low = grind (arith, nat_tests, c.if-contains.ensures.cases); high = grind (arith, nat_tests, c.if-contains.ensures.cases) })

pub returns-else-contains : goal.returns-else-contains
returns-else-contains c = within-far _ (λ h. grind (arith, nat_tests, c.if-contains.ensures.cases, h.low, h.high))
