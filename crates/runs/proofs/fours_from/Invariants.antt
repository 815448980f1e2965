-- What the loop of `runs::fours_from` keeps, and why it ends. Assumes nothing.
use Prim.Native.Nat.{◌-◌}
use lib.ListN.{length}
use Rattle.format.specs.Layout.{levels_in}
use Rattle.runs.specs.Runs.{Stands}
use Rattle.runs.proofs.fours_from.Given as goal

abbrev pub invariant-loop-end : goal.invariant-loop-end
invariant-loop-end l = Stands (levels_in l.levels) l.place l.level l.end

abbrev pub decreases-loop-end : goal.decreases-loop-end
decreases-loop-end l = length (levels_in l.levels) - l.end
