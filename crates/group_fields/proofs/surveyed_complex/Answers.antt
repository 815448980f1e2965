-- `group_fields::surveyed_complex` meets its contract. Assumes nothing.
use mathlib.Core.Path.{◌∙◌}
use Rattle.format.specs.Template.{kind_refusals}
use Rattle.group_fields.proofs.Checks.{passed_on, check-refused, check-passed, check-left}
use Rattle.group_fields.proofs.surveyed_complex.Goals as goal

pub returns-in_err-check_kind : goal.returns-in_err-check_kind
returns-in_err-check_kind c = passed_on c.from_residual.ensures.1 (check-refused _ _ (kind_refusals c.args.template) c.check_kind.ensures c.in_err-check_kind.was)

pub returns : goal.returns
returns c = c.surveyed_from.ensures ∙ check-left _ _ (kind_refusals c.args.template) (check-passed _ c.check_kind.ensures c.in_ok-check_kind.was)
