-- `runs::octets_of` meets its contract. Assumes nothing.
use mathlib.Core.Path.{ap, ◌∙◌}
use native.Mathlib.Omega.{arith}
use Rattle.format.specs.Layout.{levels_in}
use Rattle.runs.specs.Runs.{runs_left}
use Rattle.runs.proofs.Codes.{counting-start, counting-some, counting-above, counting-next, counting-end}
use Rattle.runs.proofs.Few.{codes-few}
use Rattle.runs.proofs.octets_of.Goals as goal

pub loop-run-init : goal.loop-run-init
loop-run-init c = counting-start _ _ (ap runs_left c.into_iter-run-iterator.ensures.into_iter_gives ∙ c.of-run-items.ensures)

pub returns-then-coding-run : goal.returns-then-coding-run
returns-then-coding-run c = counting-above c.loop-run.invariant c.in-Some.ensures.steps c.if-coding-run.true

pub code_count-codes-requires : goal.code_count-codes-requires
code_count-codes-requires c = counting-some c.loop-run.invariant c.in-Some.ensures.steps

pub overflow_add-codes : goal.overflow_add-codes
overflow_add-codes c = let i = counting-next c.loop-run.invariant c.in-Some.ensures.steps c.if-coding-run.false c.code_count-codes.ensures in record { fits = omega (arith, i.all, codes-few c.args.coding.bits c.args.coding.greatest (levels_in c.args.levels.now)) }

pub loop-run-preserved : goal.loop-run-preserved
loop-run-preserved c = counting-next c.loop-run.invariant c.in-Some.ensures.steps c.if-coding-run.false c.code_count-codes.ensures

pub span-requires : goal.span-requires
span-requires c = (omega arith, omega (arith, c.args.coding.accepted.few), omega (arith, c.loop-run.invariant.all, codes-few c.args.coding.bits c.args.coding.greatest (levels_in c.args.levels.now)))

pub returns : goal.returns
returns c = counting-end c.loop-run.invariant c.in-None.ensures.steps.0 c.span.ensures
