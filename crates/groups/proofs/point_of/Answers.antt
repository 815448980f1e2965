-- `groups::point_of` meets its contract. The check would find this with `nat_tests`; it stands here so that a failure names the
-- equation. Assumes nothing.
use Rattle.groups.proofs.Decoding.{point-width-0, point-wide}
use Rattle.groups.proofs.point_of.Goals as goal

pub returns-then-width-eq0 : goal.returns-then-width-eq0
returns-then-width-eq0 c = search point-width-0

pub returns : goal.returns
returns c = search point-wide
