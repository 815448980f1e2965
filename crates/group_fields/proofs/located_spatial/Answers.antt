-- `group_fields::located_spatial` meets its contract. Assumes nothing.
use mathlib.Core.Path.{◌∙◌}
use Rattle.format.specs.Template.{kind_refusals}
use Rattle.format.specs.Differences.{locate53}
use Rattle.laws.specs.First.{decides, leaves, tests}
use Rattle.group_fields.proofs.Checks.{passed_on, check-refused, check-passed}
use Rattle.group_fields.proofs.Order.{map_located, located-by}
use native.Mathlib.Omega.{arith}
use Rattle.group_fields.proofs.located_spatial.Goals as goal

pub returns-then-differencing-eq0 : goal.returns-then-differencing-eq0
unfolding locate53
returns-then-differencing-eq0 c = decides _ _ _ _ (omega (arith, tests))

pub returns-in_err-check_kind : goal.returns-in_err-check_kind
unfolding locate53
returns-in_err-check_kind c = passed_on c.from_residual.ensures.1 (check-refused _ _ (kind_refusals c.args.template) c.check_kind.ensures c.in_err-check_kind.was ∙ leaves _ 2 _ _ (omega (arith, tests)))

pub returns-then-differencing-eq0-2 : goal.returns-then-differencing-eq0-2
unfolding locate53
returns-then-differencing-eq0-2 c =
    let kind = check-passed (kind_refusals c.args.template) c.check_kind.ensures c.in_ok-check_kind.was in
    decides _ _ _ _ (omega (arith, tests))

pub returns-then-payload-start : goal.returns-then-payload-start
unfolding locate53
returns-then-payload-start c =
    let kind = check-passed (kind_refusals c.args.template) c.check_kind.ensures c.in_ok-check_kind.was in
    decides _ _ _ _ (omega (arith, tests))

pub returns : goal.returns
unfolding locate53
returns c =
    let kind = check-passed (kind_refusals c.args.template) c.check_kind.ensures c.in_ok-check_kind.was in
    rw (← c.descriptors_end-start.ensures.0)
    (map_located _ c.map.result c.map.ensures.cases ∙ located-by _ _ _ _ 0 c.surveyed_from.ensures ∙ leaves _ 7 _ _ (omega (arith, tests)))
