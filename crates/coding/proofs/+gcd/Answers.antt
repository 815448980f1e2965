-- `coding::gcd` meets its contract. Assumes nothing.
use mathlib.Core.Path.{◌∙◌}
use Rattle.coding.proofs.Divisors.{gcd-zero, gcd-step}
use Rattle.coding.proofs.+gcd.Goals as goal

pub returns-then-b-eq0 : goal.returns-then-b-eq0
returns-then-b-eq0 t c = gcd-zero _ _ c.if-b-eq0.true

pub returns-else-b-eq0 : goal.returns-else-b-eq0
returns-else-b-eq0 t c = c.gcd.ensures ∙ gcd-step _ _ c.if-b-eq0.false
