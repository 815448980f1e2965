-- `stream::read_in_octet` meets its contract. Assumes nothing.
use native.Mathlib.Omega.{arith}
use Rattle.stream.proofs.Numbers.{number-gathered}
use Rattle.stream.proofs.read_in_octet.Goals as goal

pub returns : goal.returns
returns c = number-gathered _ (λ k. omega (arith, c.type_inv.octets k)) _ 5 _ _ (omega arith) c.five_from.ensures c.read_gathered.ensures
