-- `groups::value_at` meets its contract. Assumes nothing.
use Rattle.groups.proofs.Reading.{value-below}
use Rattle.groups.proofs.value_at.Goals as goal

pub returns-then-this-ne0 : goal.returns-then-this-ne0
returns-then-this-ne0 g c = (search, search value-below)

pub returns : goal.returns
returns g c = (search, search value-below)
