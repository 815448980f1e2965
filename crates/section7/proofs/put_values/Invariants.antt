-- What the loop of `section7::put_values` keeps: after k turns the values of k groups are put. Assumes nothing.
use Rattle.std.proofs.Common.{take}
use Rattle.format.specs.Packing.{value_string}
use Rattle.laws.specs.Groups.{own_groups}
use Rattle.writer.specs.Pen.{Moved}
use Rattle.section7.proofs.put_values.Given as goal

abbrev pub invariant-loop-k : goal.invariant-loop-k
invariant-loop-k l = Moved l.initial.here (value_string (own_groups l.numbers (take l.k l.records))) l.initial.payload l.payload l.here
