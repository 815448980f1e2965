-- What the loop of `section7::put_group` keeps: after k turns k values are put. Assumes nothing.
use Rattle.std.proofs.Common.{◌-◌, map, take}
use Rattle.format.specs.Bits.{string_of}
use Rattle.laws.specs.Groups.{own_numbers}
use Rattle.writer.specs.Pen.{Moved}
use Rattle.section7.proofs.put_group.Given as goal

abbrev pub invariant-loop-k : goal.invariant-loop-k
invariant-loop-k l = Moved l.initial.here (string_of l.width (take l.k (map (λ n. n - l.group.least) (own_numbers l.numbers l.group)))) l.initial.payload l.payload l.here
