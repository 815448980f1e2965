-- What the loop of `coding::window_over` keeps: after k turns it is the window of k numbers. Assumes nothing.
use Rattle.std.proofs.Common.{◌≡◌, map, take}
use Rattle.numbers.specs.Windows.{window_of}
use Rattle.coding.proofs.window_over.Given as goal

abbrev pub invariant-loop-k : goal.invariant-loop-k
invariant-loop-k g l = l.window ≡ window_of (map g.coded (take l.k l.records))
