-- `run_length::LevelCoding::unroll` meets its contract. Assumes nothing.
use Rattle.run_length.proofs.Passes.{unrolled-start, unrolled-end, unrolled-fits, unrolled-next}
use borrow.Author.Rules.{rules}
use Rattle.run_length.proofs.coding.LevelCoding.unroll.Goals as goal

pub loop-self-init : goal.loop-self-init
loop-self-init c = search unrolled-start

pub returns-then-ends : goal.returns-then-ends
returns-then-ends c = search unrolled-end

pub overflow_add-points : goal.overflow_add-points
overflow_add-points c = search unrolled-fits

pub loop-self-preserved : goal.loop-self-preserved
loop-self-preserved c = search (unrolled-next, rules)
