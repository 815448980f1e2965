-- `stream::read_whole` meets its contract. Assumes nothing.
use native.Mathlib.Omega.{arith}
use native.Mathlib.Nat.{add-zero}
use Rattle.stream.proofs.Numbers.{number-gathered}
use Prim.Native.Nat.{◌*◌}
use Rattle.stream.proofs.read_whole.Goals as goal

pub returns : goal.returns
returns g c = simp add-zero at (number-gathered _ (λ k. omega (arith, c.type_inv.octets k)) _ g.row.N 0 (g.row.N * 8) (omega arith) c.gathered_there.ensures c.read_gathered.ensures)
