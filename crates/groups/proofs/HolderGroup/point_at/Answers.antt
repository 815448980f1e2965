-- `groups::HolderGroup::point_at` meets its contract. Assumes nothing.
use Rattle.groups.specs.Packed.{held_point}
use Rattle.groups.proofs.HolderGroup.point_at.Goals as goal

pub returns : goal.returns
unfolding held_point
returns c = cc
