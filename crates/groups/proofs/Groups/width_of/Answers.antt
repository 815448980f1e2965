-- `groups::Groups::width_of` meets its contract. Assumes nothing.
use Rattle.groups.proofs.Reading.{width_read}
use Rattle.groups.proofs.Groups.width_of.Goals as goal

pub returns : goal.returns
returns c = search width_read
