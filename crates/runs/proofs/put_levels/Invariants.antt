-- What the loop of `runs::put_levels` keeps. Assumes nothing.
use Rattle.format.specs.Layout.{levels_in}
use Rattle.runs.specs.Runs.{runs_left}
use Rattle.runs.proofs.Putting.{RunsPut}
use Rattle.runs.proofs.put_levels.Given as goal

abbrev pub invariant-loop-run : goal.invariant-loop-run
invariant-loop-run l = RunsPut l.coding (levels_in l.levels) (runs_left l.run-iterator) l.initial.here l.initial.payload l.payload l.here
