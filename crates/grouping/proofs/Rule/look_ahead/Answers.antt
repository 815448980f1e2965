-- `grouping::Rule::look_ahead` meets its contract. Assumes nothing.
use Rattle.grouping.proofs.Looking.{known, looked, dear}
use Rattle.grouping.proofs.Rule.look_ahead.Goals as goal

pub returns-then-gain-reach : goal.returns-then-gain-reach
returns-then-gain-reach c = (search dear, search known)

pub returns-then-is_less : goal.returns-then-is_less
returns-then-is_less c = search looked

pub returns-else-is_less : goal.returns-else-is_less
returns-else-is_less c = (search looked, search known)
