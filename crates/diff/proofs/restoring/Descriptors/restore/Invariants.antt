-- What the loop of `diff::restoring::Descriptors::restore` keeps. Assumes nothing.
use Rattle.diff.specs.Restoring.{first_restoring}
use Rattle.diff.proofs.Passes.{Underway}
use Rattle.diff.proofs.restoring.Descriptors.restore.Given as goal

abbrev pub invariant-loop-k : goal.invariant-loop-k
invariant-loop-k g l = Underway g.row.ORDER l.self (first_restoring g.row.ORDER) 0 l.initial.points l.restoring l.k l.points
