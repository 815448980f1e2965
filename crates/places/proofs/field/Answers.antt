-- `places::field` meets its contract. Assumes nothing.
use Rattle.std.proofs.Common.{arith}
use Rattle.laws.specs.Spans.{span-aligned}
use Rattle.places.proofs.field.Goals as goal

pub returns : goal.returns
returns c = grind (arith, span-aligned)
