-- `group_fields::groups_surveyed` meets its contract. Assumes nothing.
use Rattle.group_fields.proofs.Walked.{walked_start, walked-wide, walked-long, walked_more, walked-short, walked_at}
use Rattle.group_fields.proofs.groups_surveyed.Goals as goal

pub loop-g-init : goal.loop-g-init
loop-g-init c = walked_start _ _ _

pub returns-then-width-gt31 : goal.returns-then-width-gt31
returns-then-width-gt31 c = search walked-wide

pub returns-then-length-gt4294967295 : goal.returns-then-length-gt4294967295
returns-then-length-gt4294967295 c = search walked-long

pub loop-g-preserved : goal.loop-g-preserved
loop-g-preserved c = search walked_more

pub returns-then-groups-ended : goal.returns-then-groups-ended
returns-then-groups-ended c = search walked-short

pub returns : goal.returns
returns c = search walked_at
