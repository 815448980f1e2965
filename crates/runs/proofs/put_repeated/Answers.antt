-- `runs::put_repeated` meets its contract. Assumes nothing.
use native.Mathlib.Omega.{arith}
use Rattle.runs.proofs.Codes.{level-fits}
use Rattle.runs.proofs.Putting.{repeated-start, repeated-ready, repeated-more}
use Rattle.runs.proofs.put_repeated.Goals as goal

pub loop-init : goal.loop-init
loop-init c = repeated-start _ _ _ _ _

pub put-here-requires : goal.put-here-requires
put-here-requires c = record { ready = repeated-ready _ _ c.loop.invariant c.loop-test.true c.requires.1; width_bound = (omega (arith, c.args.coding.accepted.few), level-fits c.args.coding c.requires.0) }

pub loop-preserved : goal.loop-preserved
loop-preserved c = repeated-more _ _ c.loop.invariant c.loop-test.true c.put-here.ensures
