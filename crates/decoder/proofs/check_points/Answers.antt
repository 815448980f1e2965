-- `decoder::check_points` meets its contract. Assumes nothing.
use native.Mathlib.Omega.{arith}
use Rattle.format.specs.Refusals.{count_refusals}
use Rattle.std.specs.declared.result.Result.TheVariants.{Err}
use Rattle.laws.specs.First.{decides, clears, tests}
use Rattle.format.specs.declared.Refusal.TheVariants.{Room}
use Rattle.group_fields.proofs.Checks.{passed_on, check-passed, check-refused}
use Rattle.decoder.proofs.check_points.Goals as goal

pub returns-in_err-check_count : goal.returns-in_err-check_count
returns-in_err-check_count c =
    passed_on c.from_residual.ensures.1 (check-refused _ _ (count_refusals c.args.points c.args.declared) c.check_count.ensures c.in_err-check_count.was)

pub returns-then-room-declared : goal.returns-then-room-declared
returns-then-room-declared c =
    let clear = check-passed (count_refusals c.args.points c.args.declared) c.check_count.ensures c.in_ok-check_count.was in
    decides Err Room _ _ (omega (arith, tests))

pub returns : goal.returns
returns c =
    let clear = check-passed (count_refusals c.args.points c.args.declared) c.check_count.ensures c.in_ok-check_count.was in
    clears Err _ _ (omega (arith, tests))
