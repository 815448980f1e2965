-- `stream::read_there` meets its contract. Assumes nothing.
use native.Mathlib.Omega.{arith}
use Rattle.stream.proofs.Numbers.{number-gathered, number-placed}
use Rattle.stream.proofs.read_there.Goals as goal

pub returns : goal.returns
returns c = number-placed _ _ _ c.octet_of.ensures c.bit_in_octet.ensures (number-gathered _ (λ k. omega (arith, c.type_inv.octets k)) _ 8 _ _ (omega arith) c.gathered_there-gathered.ensures c.read_gathered.ensures)
