-- `diff::restoring::Descriptors::next` meets its contract. Assumes nothing.
use native.Mathlib.Omega.{arith}
use Rattle.diff.proofs.Coming.{next-first, next-sum}
use Rattle.diff.proofs.restoring.Descriptors.next.Goals as goal

pub returns-then-restoring-gt0 : goal.returns-then-restoring-gt0
returns-then-restoring-gt0 g c = next-first _ _ _ c.self.inside.minimum (search) c.self.view_is _ c.if-restoring-gt0.true (omega arith)

pub returns : goal.returns
returns g c = rw c.from.ensures (next-sum _ _ _ _ (search) c.self.view_is (omega arith) c.self.invariant c.expected.ensures)
