-- What the loop of `coding::step_of` keeps: after k turns it is the step of k lengths. Assumes nothing.
use Rattle.std.proofs.Common.{◌≡◌, take}
use Rattle.format.specs.Packing.{gcd_from}
use Rattle.coding.specs.Codes.{lengths_in}
use Rattle.coding.proofs.Codings.{differences}
use Rattle.coding.proofs.step_of.Given as goal

abbrev pub invariant-loop-k : goal.invariant-loop-k
invariant-loop-k l = l.step ≡ gcd_from 0 (differences l.reference (lengths_in (take l.k l.records)))
