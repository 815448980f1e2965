-- `group_fields::check_kind` meets its contract. The check would find this with `nat_tests`; it stands here so that a failure names the
-- equation. Assumes nothing.
use Rattle.laws.specs.First.{clears, tests}
use native.Mathlib.Omega.{arith}
use Rattle.group_fields.proofs.check_kind.Goals as goal

pub returns : goal.returns
returns c = clears _ _ _ (omega (arith, tests))
