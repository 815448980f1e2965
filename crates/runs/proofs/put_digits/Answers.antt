-- `runs::put_digits` meets its contract. Assumes nothing.
use mathlib.Core.Path.{ap}
use Rattle.format.specs.WritingRunLength.{digits_of}
use Rattle.runs.specs.declared.Digits.{Digits}
use Rattle.runs.proofs.Putting.{digits-start, digit-low, digit-ready, digit-more}
use Rattle.runs.proofs.put_digits.Goals as goal

pub loop-digit-init : goal.loop-digit-init
loop-digit-init c = digits-start _ _ _ _ c.requires.0 (ap (λ (d : Digits). digits_of d.base d.rest) c.into_iter-digit-iterator.ensures.into_iter_gives)

pub put_digit-here-requires : goal.put_digit-here-requires
put_digit-here-requires c = let e = c.in-Some.ensures.steps in (digit-low c.loop-digit.invariant e, digit-ready c.loop-digit.invariant e c.requires.1)

pub loop-digit-preserved : goal.loop-digit-preserved
loop-digit-preserved c = digit-more c.loop-digit.invariant c.in-Some.ensures.steps c.put_digit-here.ensures
