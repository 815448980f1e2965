-- `diff::restoring::Descriptors::read` meets its contract. Assumes nothing.
use native.Mathlib.Omega.{arith}
use Rattle.diff.proofs.Firsts.{filled-none, filled-more, described}
use Rattle.diff.proofs.restoring.Descriptors.read.Goals as goal

pub loop-k-init : goal.loop-k-init
loop-k-init g c = search filled-none

pub loop-k-preserved : goal.loop-k-preserved
loop-k-preserved g c = search filled-more

pub returns : goal.returns
returns g c = described _ _ _ c.loop-k.invariant (omega arith) c.minimum.ensures
