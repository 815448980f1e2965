-- What the loop of `runs::put_repeated` keeps. Assumes nothing.
use Prim.Native.Nat.{◌-◌}
use lib.ListN.{replicate}
use Rattle.runs.proofs.Putting.{CodesPut}
use Rattle.runs.proofs.put_repeated.Given as goal

abbrev pub invariant-loop : goal.invariant-loop
invariant-loop l = CodesPut l.coding.bits (replicate l.run.length l.run.level) (replicate (l.run.length - l.counter) l.run.level) l.initial.here l.initial.payload l.payload l.here
