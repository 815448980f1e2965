-- `numbers::number_at` meets its contract. Assumes nothing.
use mathlib.Core.Path.{◌∙◌}
use native.Mathlib.Omega.{arith}
use Rattle.laws.specs.Lists.{length-listed}
use Rattle.laws.specs.Stores.{number-listed}
use Rattle.numbers.proofs.number_at.Goals as goal

pub whole_in-requires : goal.whole_in-requires
whole_in-requires c = let l = rw length-listed at c.requires in omega arith

pub returns : goal.returns
returns c = c.whole_in.ensures ∙ number-listed _ _ (rw length-listed at c.requires)
