-- What the loop of `runs::end_from` keeps: the level stands at the places before k. Assumes nothing.
use Rattle.format.specs.Layout.{levels_in}
use Rattle.runs.specs.Runs.{Stands}
use Rattle.runs.proofs.end_from.Given as goal

abbrev pub invariant-loop-k : goal.invariant-loop-k
invariant-loop-k l = Stands (levels_in l.levels) l.place l.level l.k
