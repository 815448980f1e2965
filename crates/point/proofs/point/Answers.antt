-- `point::point` meets its contract. Assumes nothing.
use Rattle.group_fields.proofs.Checks.{passed_on}
use Rattle.point.proofs.Answering.{named-refused, named-complex, named-spatial}
use Rattle.point.proofs.point.Goals as goal

pub returns-in_err-declared : goal.returns-in_err-declared
returns-in_err-declared c = passed_on c.from_residual.ensures.1 (named-refused _ _ _ c.named.ensures c.in_err-declared.was)

pub returns-in-Complex : goal.returns-in-Complex
returns-in-Complex c = named-complex _ _ _ c.named.ensures c.in_ok-declared.was c.in-Complex.is c.point_complex.ensures

pub returns-in-Spatial : goal.returns-in-Spatial
returns-in-Spatial c = named-spatial _ _ _ c.named.ensures c.in_ok-declared.was c.in-Spatial.is
