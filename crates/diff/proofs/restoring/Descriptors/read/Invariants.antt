-- What the loop of `diff::restoring::Descriptors::read` keeps. Assumes nothing.
use Rattle.diff.proofs.Firsts.{Filled}
use Rattle.diff.proofs.restoring.Descriptors.read.Given as goal

abbrev pub invariant-loop-k : goal.invariant-loop-k
invariant-loop-k g l = Filled l.payload l.octets g.row.ORDER l.first-items l.k
