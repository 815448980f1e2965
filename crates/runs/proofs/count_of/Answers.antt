-- `runs::count_of` meets its contract. Assumes nothing.
use mathlib.Core.Path.{sym}
use Rattle.laws.specs.Lists.{length-listed}
use Rattle.runs.proofs.count_of.Goals as goal

pub returns : goal.returns
returns c = sym (length-listed _ _)
