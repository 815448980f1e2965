-- What the loop of `writer::Pen::put_all` keeps. Assumes nothing.
use lib.ListN.{take}
use Rattle.format.specs.Bits.{string_of}
use Rattle.writer.specs.Pen.{Moved}
use Rattle.writer.proofs.Pen.put_all.Given as goal

abbrev pub invariant-loop-number : goal.invariant-loop-number
invariant-loop-number l = Moved l.initial.here (string_of l.width (take l.number-index l.numbers)) l.initial.octets l.octets l.here
