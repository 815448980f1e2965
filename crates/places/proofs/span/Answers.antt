-- `places::span` meets its contract. Assumes nothing.
use Rattle.std.proofs.Common.{refl, arith}
use Rattle.laws.specs.Spans.{span-of-none, span-of-width, span-of-eights}
use Rattle.places.proofs.span.Goals as goal

pub returns-then-count-eq0 : goal.returns-then-count-eq0
returns-then-count-eq0 c = grind (arith, span-of-none, span-of-width)

pub returns : goal.returns
returns c = let a = c.args in omega (arith, span-of-eights a.start.0 a.width a.count c.if-count-eq0.false c.if-width-eq0.false refl refl)
