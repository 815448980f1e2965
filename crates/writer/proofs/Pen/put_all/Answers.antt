-- `writer::Pen::put_all` meets its contract. Assumes nothing.
use mathlib.Core.Path.{refl}
use Rattle.writer.proofs.Jobs.{none-moved, number-ready, number_fits, number-moved}
use Rattle.writer.proofs.Pen.put_all.Goals as goal

pub loop-number-init : goal.loop-number-init
loop-number-init c = none-moved c.args.width c.args.numbers.now c.args.self c.args.octets.now

pub put-here-requires-clause-ready : goal.put-here-requires-clause-ready
put-here-requires-clause-ready c = search number-ready

pub put-here-requires-clause-width_bound : goal.put-here-requires-clause-width_bound
put-here-requires-clause-width_bound c = (c.requires.width_bound.0, number_fits c.args.width c.args.numbers.now c.loop-number.number-index c.requires.width_bound.1 refl c.loop-number-test.true)

pub loop-number-preserved : goal.loop-number-preserved
loop-number-preserved c = number-moved c.args.width c.args.numbers.now c.loop-number.number-index c.loop-number-test.true c.loop-number.invariant refl c.put-here.ensures
