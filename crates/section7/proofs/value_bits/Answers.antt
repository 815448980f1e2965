-- `section7::value_bits` meets its contract. Assumes nothing.
use Rattle.std.proofs.Common.{refl, arith}
use Rattle.section7.proofs.Values.{few-bits, bits-next, bits-all}
use Rattle.section7.proofs.value_bits.Goals as goal

pub loop-k-init : goal.loop-k-init
loop-k-init c = (refl, omega arith)

pub overflow_add-bits : goal.overflow_add-bits
overflow_add-bits c = let few = few-bits (c.requires.each c.loop-k.k _ (omega arith) c.at-group.ensures) in omega arith

pub loop-k-preserved : goal.loop-k-preserved
loop-k-preserved c =
    let few = few-bits (c.requires.each c.loop-k.k _ (omega arith) c.at-group.ensures) in
    (bits-next _ c.loop-k.k (omega arith) c.at-group.ensures c.loop-k.invariant.0 refl, omega arith)

pub returns : goal.returns
returns c = (bits-all _ c.loop-k.k (omega arith) c.loop-k.invariant.0, omega arith)
