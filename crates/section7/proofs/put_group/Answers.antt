-- `section7::put_group` meets its contract. Assumes nothing.
use Rattle.std.proofs.Common.{◌-◌, map, arith}
use Rattle.laws.specs.Groups.{own_numbers}
use Rattle.writer.proofs.Jobs.{none-moved}
use Rattle.section7.proofs.Values.{value-least, value-narrow, value-ready, value-moved, values-moved}
use Rattle.section7.proofs.put_group.Goals as goal

pub loop-k-init : goal.loop-k-init
loop-k-init c = none-moved _ (map (λ n. n - c.args.group.least) (own_numbers c.args.numbers.now c.args.group)) c.args.pen c.args.payload.now

pub overflow_sub-value : goal.overflow_sub-value
overflow_sub-value c = value-least c.requires.recorded.0 c.loop-k.k (omega arith) c.at.ensures

pub put-here-requires-clause-ready : goal.put-here-requires-clause-ready
put-here-requires-clause-ready c = value-ready c.requires.recorded.0 c.loop-k.k (omega arith) c.at.ensures c.loop-k.invariant c.requires.ready

pub put-here-requires-clause-width_bound : goal.put-here-requires-clause-width_bound
put-here-requires-clause-width_bound c = (omega arith, value-narrow c.requires.recorded.0 c.loop-k.k (omega arith) c.at.ensures)

pub loop-k-preserved : goal.loop-k-preserved
loop-k-preserved c = value-moved c.requires.recorded.0 c.loop-k.k (omega arith) c.at.ensures c.loop-k.invariant c.put-here.ensures

pub returns : goal.returns
returns c = values-moved c.requires.recorded.0 c.loop-k.k (omega arith) c.loop-k.invariant
