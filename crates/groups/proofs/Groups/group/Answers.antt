-- `groups::Groups::group` meets its contract: each part is what its own function answers. Assumes nothing.
use Rattle.groups.proofs.Groups.group.Goals as goal

pub returns : goal.returns
returns c = cc
