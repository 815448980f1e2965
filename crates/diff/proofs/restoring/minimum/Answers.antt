-- `diff::restoring::minimum` meets its contract. Assumes nothing.
use Rattle.diff.proofs.Firsts.{minimum-minus, minimum-plus}
use Rattle.diff.proofs.restoring.minimum.Goals as goal

pub returns-then-read_number-eq1 : goal.returns-then-read_number-eq1
returns-then-read_number-eq1 c = search minimum-minus

pub returns : goal.returns
returns c = search minimum-plus
