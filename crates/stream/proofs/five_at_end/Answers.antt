-- `stream::five_at_end` meets its contract. Assumes nothing.
use Rattle.std.proofs.Common.{refl, arith}
use Rattle.laws.specs.Bits.{gathered}
use Rattle.stream.proofs.Numbers.{five-past}
use Rattle.stream.proofs.five_at_end.Goals as goal

pub returns-in-0 : goal.returns-in-0
unfolding gathered
returns-in-0 c = five-past c.args.octets.now (λ k. omega (arith, c.type_inv.octets k)) c.args.place.0 0 5 (omega (arith, c.in-0.is)) refl refl

pub returns-in-1 : goal.returns-in-1
returns-in-1 c = five-past c.args.octets.now (λ k. omega (arith, c.type_inv.octets k)) c.args.place.0 1 4 (omega (arith, c.in-1.is)) refl c.gathered_there.ensures

pub returns-in-2 : goal.returns-in-2
returns-in-2 c = five-past c.args.octets.now (λ k. omega (arith, c.type_inv.octets k)) c.args.place.0 2 3 (omega (arith, c.in-2.is)) refl c.gathered_there-in-2.ensures

pub returns-in-3 : goal.returns-in-3
returns-in-3 c = five-past c.args.octets.now (λ k. omega (arith, c.type_inv.octets k)) c.args.place.0 3 2 (omega (arith, c.in-3.is)) refl c.gathered_there-in-3.ensures

pub returns-in_default : goal.returns-in_default
returns-in_default c = five-past c.args.octets.now (λ k. omega (arith, c.type_inv.octets k)) c.args.place.0 4 1 (omega arith) refl c.gathered_there-in_default.ensures
