-- `point::point_complex` meets its contract. Assumes nothing.
use Rattle.group_fields.proofs.Checks.{passed_on}
use Rattle.point.proofs.Answering.{point-refused, point-asked, point-done}
use Rattle.point.proofs.point_complex.Goals as goal

pub returns-in_err-held : goal.returns-in_err-held
returns-in_err-held c = passed_on c.from_residual.ensures.1 (point-refused _ _ _ _ c.held_complex.ensures c.in_err-held.was)

pub point_at-requires : goal.point_at-requires
point_at-requires c = point-asked _ _ _ _ c.held_complex.ensures c.in_ok-held.was

pub returns : goal.returns
returns c = point-done _ _ _ _ c.held_complex.ensures c.in_ok-held.was c.point_at.ensures
