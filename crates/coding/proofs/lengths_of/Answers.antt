-- `coding::lengths_of` meets its contract. All lengths but the last are those of the groups but the last. Assumes nothing.
use Rattle.std.proofs.Common.{arith}
use Rattle.numbers.proofs.Windows.{window-ordered}
use Rattle.coding.proofs.Codings.{one-coded, all_coded}
use Rattle.coding.proofs.lengths_of.Goals as goal

pub returns-then-len-eq1 : goal.returns-then-len-eq1
returns-then-len-eq1 c = one-coded c.args.records.now c.requires.some c.len.ensures c.at-last.ensures (omega arith)

pub overflow_sub-lengths : goal.overflow_sub-lengths
overflow_sub-lengths c = search window-ordered

pub returns : goal.returns
returns c = search all_coded
