-- What the loop of `numbers::greatest_of` keeps. Assumes nothing.
use mathlib.Core.Path.{◌≡◌}
use lib.ListN.{take}
use Rattle.format.specs.Lists.{greatest}
use Rattle.format.specs.Layout.{numbers_in}
use Rattle.numbers.proofs.greatest_of.Given as goal

abbrev pub invariant-loop-k : goal.invariant-loop-k
invariant-loop-k l = l.greatest ≡ greatest (take l.k (numbers_in l.octets))
