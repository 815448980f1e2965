-- What the loop of `diff::restoring::Descriptors::restore_later` keeps. Assumes nothing.
use Rattle.diff.specs.Restoring.{settled}
use Rattle.diff.proofs.Passes.{Underway}
use Rattle.diff.proofs.restoring.Descriptors.restore_later.Given as goal

abbrev pub invariant-loop-k : goal.invariant-loop-k
invariant-loop-k g l = Underway g.row.ORDER l.self (settled l.fn.restoring) l.start l.initial.points l.restoring l.k l.points
