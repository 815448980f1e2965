-- What the loop of `grouping::Ahead::level_end` keeps. Assumes nothing.
use Prim.Native.Nat.{◌<◌}
use lib.Seq.{slice}
use Rattle.grouping.specs.Rule.{Level}
use Rattle.grouping.proofs.Ahead.level_end.Given as goal

abbrev pub invariant-loop-i : goal.invariant-loop-i
invariant-loop-i l = (l.self.end < l.i) × Level (slice l.self.end l.i l.self.numbers.now)
