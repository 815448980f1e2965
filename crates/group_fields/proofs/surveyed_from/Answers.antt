-- `group_fields::surveyed_from` meets its contract. Assumes nothing.
use Rattle.format.specs.Template.{field_refusals}
use Rattle.laws.specs.Accepting.{laid}
use Rattle.group_fields.proofs.Checks.{passed_on, check-refused}
use Rattle.group_fields.proofs.Order.{passing, fields-short, fields-there}
use native.Mathlib.Omega.{arith}
use Rattle.group_fields.proofs.surveyed_from.Goals as goal

pub returns-in_err-check_fields : goal.returns-in_err-check_fields
returns-in_err-check_fields c = passed_on c.from_residual.ensures.1 (check-refused _ _ (field_refusals c.args.template) c.check_fields.ensures c.in_err-check_fields.was)

pub parts_of-places-requires : goal.parts_of-places-requires
parts_of-places-requires c = (passing _ c.check_fields.ensures c.in_ok-check_fields.was, omega arith, omega arith)

pub returns-then-payload-places : goal.returns-then-payload-places
returns-then-payload-places c = fields-short _ c.check_fields.ensures c.in_ok-check_fields.was _ _ _ c.parts_of-places.ensures c.if-payload-places.true

pub invariant_of-groups : goal.invariant_of-groups
invariant_of-groups c = record { laid = laid _ _ (passing _ c.check_fields.ensures c.in_ok-check_fields.was) (omega arith) c.parts_of-places.ensures }

pub returns : goal.returns
returns c = fields-there _ c.check_fields.ensures c.in_ok-check_fields.was _ _ _ c.parts_of-places.ensures c.if-payload-places.false c.groups_surveyed.ensures
