-- `point::held_complex` meets its contract. Assumes nothing.
use Rattle.group_fields.proofs.Checks.{passed_on}
use Rattle.point.proofs.Deciding.{held-refused, held-other, held-past, held-laid, held-asked, held-right}
use native.Mathlib.Omega.{arith}
use Rattle.point.proofs.held_complex.Goals as goal

pub returns-in_err-surveyed : goal.returns-in_err-surveyed
returns-in_err-surveyed c = passed_on c.from_residual.ensures.1 (held-refused _ _ _ _ c.surveyed_complex.ensures c.in_err-surveyed.was)

pub returns-in_err-check_count : goal.returns-in_err-check_count
returns-in_err-check_count c = passed_on c.from_residual-in_err-check_count.ensures.1 (held-other _ _ _ _ c.surveyed_complex.ensures c.in_ok-surveyed.was c.check_count.ensures c.in_err-check_count.was)

pub returns-then-declared-place : goal.returns-then-declared-place
returns-then-declared-place c =
    held-past _ _ _ _ c.surveyed_complex.ensures c.in_ok-surveyed.was c.check_count.ensures c.in_ok-check_count.was (omega arith)

pub invariant_of-groups : goal.invariant_of-groups
invariant_of-groups c = record { laid = held-laid _ _ _ _ c.surveyed_complex.ensures c.in_ok-surveyed.was c.check_count.ensures c.in_ok-check_count.was }

pub holder-requires : goal.holder-requires
holder-requires c =
    held-asked _ _ _ _ c.surveyed_complex.ensures c.in_ok-surveyed.was c.check_count.ensures c.in_ok-check_count.was (omega arith)

pub returns : goal.returns
returns c =
    held-right _ _ _ _ c.surveyed_complex.ensures c.in_ok-surveyed.was c.check_count.ensures c.in_ok-check_count.was (omega arith) c.holder.ensures
