-- What the loop of `grouping::Ahead::is_less` keeps. Assumes nothing.
use Prim.Native.Nat.{◌<◌}
use Rattle.grouping.proofs.Looking.{Looking}
use Rattle.grouping.proofs.Ahead.is_less.Given as goal

abbrev pub invariant-loop-i : goal.invariant-loop-i
invariant-loop-i l = (l.self.end < l.i) × Looking l.self.numbers.now l.self.end l.self.reach l.gain l.window l.i
