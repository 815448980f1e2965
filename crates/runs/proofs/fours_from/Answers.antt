-- `runs::fours_from` meets its contract. Assumes nothing.
use Rattle.laws.specs.Lists.{length-listed}
use Rattle.runs.proofs.Runs.{stands_on}
use borrow.Author.Rules.{rules}
use Rattle.runs.proofs.fours_from.Goals as goal

pub overflow_add-end : goal.overflow_add-end
overflow_add-end c = let l = rw length-listed at (c.four_stand.ensures c.loop-end-test.true).within in search rules

pub loop-end-preserved : goal.loop-end-preserved
loop-end-preserved c = stands_on c.loop-end.invariant (c.four_stand.ensures c.loop-end-test.true)
