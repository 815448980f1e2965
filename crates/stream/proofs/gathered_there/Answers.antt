-- `stream::gathered_there` meets its contract. Assumes nothing.
use Rattle.std.proofs.Common.{refl, arith}
use Rattle.laws.specs.Bits.{gathered}
use Rattle.stream.proofs.Numbers.{gathered-turn, turn_fits}
use Rattle.stream.proofs.gathered_there.Goals as goal

pub loop-k-init : goal.loop-k-init
unfolding gathered
loop-k-init g c = refl

pub overflow_add-number-in-loop-k : goal.overflow_add-number-in-loop-k
overflow_add-number-in-loop-k g c = omega (arith, turn_fits c.args.octets.now (λ k. omega (arith, c.type_inv.octets k)) c.args.place.0 g.row.N c.loop-k.k (omega arith) (omega arith) c.loop-k.invariant)

pub loop-k-preserved : goal.loop-k-preserved
loop-k-preserved g c = omega (arith, gathered-turn c.args.octets.now (λ k. omega (arith, c.type_inv.octets k)) c.args.place.0 g.row.N c.loop-k.k (omega arith) (omega arith) c.loop-k.invariant)
