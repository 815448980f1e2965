-- `runs::put_levels` meets its contract. Assumes nothing.
use mathlib.Core.Path.{ap, ◌∙◌}
use Rattle.runs.specs.Runs.{runs_left}
use Rattle.runs.proofs.Putting.{runs-start, run-low, run-ready, run_more, runs-moved}
use Rattle.runs.proofs.put_levels.Goals as goal

pub loop-run-init : goal.loop-run-init
loop-run-init c = runs-start _ _ c.at-here.ensures c.requires.1 c.requires.0 (ap runs_left c.into_iter-run-iterator.ensures.into_iter_gives ∙ c.of-run-items.ensures)

pub put_run-here-requires : goal.put_run-here-requires
put_run-here-requires c =
    let e = c.in-Some.ensures.steps in
    let low = run-low _ _ c.at-here.ensures c.requires.1 c.loop-run.invariant e in
    (low.0, low.1, run-ready _ _ c.at-here.ensures c.requires.1 c.loop-run.invariant e)

pub loop-run-preserved : goal.loop-run-preserved
loop-run-preserved c = run_more _ _ c.at-here.ensures c.requires.1 c.loop-run.invariant c.in-Some.ensures.steps c.put_run-here.ensures

pub returns : goal.returns
returns c = runs-moved _ _ c.at-here.ensures c.requires.1 c.loop-run.invariant c.in-None.ensures.steps.0
