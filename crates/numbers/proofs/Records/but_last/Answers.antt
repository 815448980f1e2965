-- `numbers::Records::but_last` meets its contract. Assumes nothing.
use Rattle.std.proofs.Common.{arith, sym}
use Rattle.laws.specs.Lists.{length-listed}
use Rattle.numbers.proofs.Lists.{take-listed}
use Rattle.numbers.proofs.Records.but_last.Goals as goal

pub overflow_sub-result : goal.overflow_sub-result
overflow_sub-result c = let l = rw (← c.self.view_is, length-listed) at c.requires in omega arith

pub returns : goal.returns
returns c = rw (← c.self.view_is, length-listed) (sym (take-listed _ _ _ (omega arith)))
