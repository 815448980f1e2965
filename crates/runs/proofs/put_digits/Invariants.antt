-- What the loop of `runs::put_digits` keeps. Assumes nothing.
use Rattle.format.specs.WritingRunLength.{digits_of}
use Rattle.runs.proofs.Putting.{DigitsPut}
use Rattle.runs.proofs.put_digits.Given as goal

abbrev pub invariant-loop-digit : goal.invariant-loop-digit
invariant-loop-digit l = DigitsPut l.coding l.number (digits_of l.digit-iterator.base l.digit-iterator.rest) l.initial.here l.initial.payload l.payload l.here
