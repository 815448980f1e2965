-- `diff::restore` meets its contract. Assumes nothing.
use Rattle.diff.proofs.Passes.{whole-first, whole-second}
use Rattle.diff.proofs.restore.Goals as goal

pub returns-then-differencing-eq1 : goal.returns-then-differencing-eq1
returns-then-differencing-eq1 c = search whole-first

pub returns : goal.returns
returns c = search whole-second
