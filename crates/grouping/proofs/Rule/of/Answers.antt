-- `grouping::Rule::of` meets its contract: the tests of the code are those of the rows. Assumes nothing.
use mathlib.Core.Path.{refl}
use native.Mathlib.Omega.{arith}
use Rattle.grouping.proofs.Refusing.{refuses, passes}
use Rattle.grouping.proofs.Rule.of.Goals as goal
use Rattle.grouping.proofs.Rule.of.Goals.{then-count-eq0-via-then-count-eq0, then-count-eq0-via-else-count-eq0+then-count, then-lookahead-eq0-via-then-lookahead-eq0, then-lookahead-eq0-via-else-lookahead-eq0+then-lookahead-gt65535}

pub returns-then-count-eq0 : goal.returns-then-count-eq0
returns-then-count-eq0 c =
    refuses _ _ (λ some few small ahead near. elim c.then-count-eq0.branch [ then-count-eq0-via-then-count-eq0 w ↦ omega arith | then-count-eq0-via-else-count-eq0+then-count w ↦ omega arith ])

pub returns-then-greatest-gt2147483647 : goal.returns-then-greatest-gt2147483647
returns-then-greatest-gt2147483647 c = refuses _ _ (λ some few small ahead near. omega arith)

pub returns-then-lookahead-eq0 : goal.returns-then-lookahead-eq0
returns-then-lookahead-eq0 c =
    refuses _ _ (λ some few small ahead near. elim c.then-lookahead-eq0.branch [ then-lookahead-eq0-via-then-lookahead-eq0 w ↦ omega arith | then-lookahead-eq0-via-else-lookahead-eq0+then-lookahead-gt65535 w ↦ omega arith ])

-- the check finds this; it stands here so that a failure names the bound
pub invariant_of-result : goal.invariant_of-result
invariant_of-result c = record { limits = record { few = omega arith; ahead = omega arith; near = omega arith } }

pub returns : goal.returns
returns c = (passes _ _ (omega arith) (record { few = omega arith; ahead = omega arith; near = omega arith }) (omega arith), refl, refl, refl)
