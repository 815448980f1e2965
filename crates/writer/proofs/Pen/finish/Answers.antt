-- `writer::Pen::finish` meets its contract. Assumes nothing.
use Rattle.writer.proofs.Pens.{held-end, held-last}
use native.Mathlib.Omega.{arith}
use Rattle.writer.proofs.Pen.finish.Goals as goal

pub returns-then-self-gt0 : goal.returns-then-self-gt0
returns-then-self-gt0 c = λ string lent h. held-last h (omega arith) (omega arith) (omega arith) (cc)

pub returns-else-self-gt0 : goal.returns-else-self-gt0
returns-else-self-gt0 c = λ string lent h. held-end h (omega arith)
