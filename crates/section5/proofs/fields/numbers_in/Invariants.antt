-- What the loop of `section5::fields::numbers_in` keeps: after k turns the numbers of k rows are there. Assumes nothing.
use Rattle.section5.proofs.Rows.{Filled}
use Rattle.section5.proofs.fields.numbers_in.Given as goal

abbrev pub invariant-loop-k : goal.invariant-loop-k
invariant-loop-k l = Filled l.section5 l.number-items l.k
