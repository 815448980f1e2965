-- What the loop of `runs::octets_of` keeps. Assumes nothing.
use Rattle.format.specs.Layout.{levels_in}
use Rattle.runs.specs.Runs.{runs_left}
use Rattle.runs.proofs.Codes.{Counting}
use Rattle.runs.proofs.octets_of.Given as goal

abbrev pub invariant-loop-run : goal.invariant-loop-run
invariant-loop-run l = Counting l.coding (levels_in l.levels) l.codes (runs_left l.run-iterator)
