-- What the loop of `section7::value_bits` keeps: a group has no more values than the limit, of 32 bits at most. Assumes nothing.
use Rattle.std.proofs.Common.{◌≡◌, ◌*◌, ◌≤◌, take}
use Rattle.format.specs.Refusals.{limit}
use Rattle.section7.specs.Parts.{value_bits}
use Rattle.section7.proofs.value_bits.Given as goal

abbrev pub invariant-loop-k : goal.invariant-loop-k
invariant-loop-k l = (l.bits ≡ value_bits (take l.k l.records)) × (l.bits ≤ l.k * (limit * 32))
