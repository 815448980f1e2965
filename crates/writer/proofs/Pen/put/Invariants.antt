-- What the loop of `writer::Pen::put` keeps, and why it ends: each turn sends an octet out. Assumes nothing.
use Rattle.writer.proofs.Pens.{Emitting}
use Rattle.writer.proofs.Pen.put.Given as goal

abbrev pub invariant-loop-pending : goal.invariant-loop-pending
invariant-loop-pending l = Emitting l.initial.octets l.initial.at l.initial.number l.initial.pending l.octets l.at l.number l.pending

abbrev pub decreases-loop-pending : goal.decreases-loop-pending
decreases-loop-pending l = l.pending
