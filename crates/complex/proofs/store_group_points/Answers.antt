-- `complex::store_group_points` meets its contract. Assumes nothing.
use Rattle.complex.proofs.Points.{repeated-points}
use Rattle.complex.proofs.store_group_points.Goals as goal

pub returns-then-group-eq0 : goal.returns-then-group-eq0
returns-then-group-eq0 c = search repeated-points
