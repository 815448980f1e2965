-- `coding::length_bits` meets its contract. A quotient by 0 is 0. Assumes nothing.
use native.Mathlib.Nat.{div-zero}
use native.Mathlib.Omega.{arith}
use Rattle.format.specs.Grouping.{bits, digits_in}
use Rattle.coding.proofs.length_bits.Goals as goal

pub returns-then-increment-eq0 : goal.returns-then-increment-eq0
unfolding bits digits_in
returns-then-increment-eq0 c = (rw (c.if-increment-eq0.true, div-zero c.args.difference), omega arith)
