-- `coding::step_of` meets its contract. Assumes nothing.
use Rattle.std.proofs.Common.{refl, arith}
use Rattle.format.specs.Packing.{gcd_from}
use Rattle.coding.proofs.Codings.{length-there, step-next, step-last}
use Rattle.coding.proofs.step_of.Goals as goal

pub loop-k-init : goal.loop-k-init
unfolding gcd_from
loop-k-init c = refl

pub overflow_sub-at : goal.overflow_sub-at
overflow_sub-at c = length-there _ _ c.loop-k.k c.requires (omega arith) c.at.ensures

pub loop-k-preserved : goal.loop-k-preserved
loop-k-preserved c = step-next _ _ c.loop-k.k (omega arith) c.loop-k.invariant c.at.ensures c.gcd-step.ensures

pub returns : goal.returns
returns c = step-last _ _ c.loop-k.k (omega arith) c.loop-k.invariant
