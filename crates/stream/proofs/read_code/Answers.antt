-- `stream::read_code` meets its contract. Assumes nothing.
use native.Mathlib.Omega.{arith}
use Rattle.format.specs.Bits.{number_of}
use Rattle.stream.proofs.Numbers.{number-gathered, number-placed}
use Rattle.stream.proofs.read_code.Goals as goal

pub returns-then-octet-octets : goal.returns-then-octet-octets
returns-then-octet-octets c =
    number-placed _ _ _ c.octet_of-octet.ensures c.bit_in_octet.ensures
    (number-gathered _ (λ k. omega (arith, c.type_inv.octets k)) _ 5 _ _ (omega (arith, c.bit_in_octet.ensures)) c.gathered_there-gathered.ensures c.read_gathered.ensures)

pub returns-then-width-eq0 : goal.returns-then-width-eq0
unfolding number_of
returns-then-width-eq0 c = rw c.if-width-eq0.true c.read_gathered-then-width-eq0.ensures
