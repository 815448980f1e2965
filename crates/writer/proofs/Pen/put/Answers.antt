-- `writer::Pen::put` meets its contract. Assumes nothing.
use Rattle.writer.proofs.Pens.{emitting-start, emitting-more, emitting-end}
use Rattle.writer.proofs.Pen.put.Goals as goal

pub loop-pending-init : goal.loop-pending-init
loop-pending-init c = search emitting-start

pub loop-pending-preserved : goal.loop-pending-preserved
loop-pending-preserved c = search emitting-more

pub returns : goal.returns
returns c = search emitting-end
