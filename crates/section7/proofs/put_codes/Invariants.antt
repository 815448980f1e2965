-- What the loop of `section7::put_codes` keeps: after k turns k codes are put. Assumes nothing.
use Rattle.std.proofs.Common.{map, take}
use Rattle.format.specs.Bits.{string_of}
use Rattle.writer.specs.Pen.{Moved}
use Rattle.section7.specs.Parts.{bits_of, code_of}
use Rattle.section7.proofs.put_codes.Given as goal

abbrev pub invariant-loop-k : goal.invariant-loop-k
invariant-loop-k l = Moved l.initial.here (string_of (bits_of l.coding) (take l.k (map (code_of l.coding) l.records))) l.initial.payload l.payload l.here
