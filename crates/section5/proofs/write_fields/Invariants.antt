-- What the loop of `section5::write_fields` keeps: after k turns k fields are written. Assumes nothing.
use Rattle.section5.specs.Kind.{number}
use Rattle.section5.proofs.Writing.{Written}
use Rattle.section5.proofs.write_fields.Given as goal

abbrev pub invariant-loop-k : goal.invariant-loop-k
invariant-loop-k l = Written l.fields (number l.fn.kind) l.initial.section5 l.section5 l.k
