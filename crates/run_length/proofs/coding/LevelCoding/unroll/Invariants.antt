-- What the loop of `run_length::LevelCoding::unroll` keeps, and why it ends. Assumes nothing.
use Prim.Native.Nat.{◌-◌, ◌*◌}
use lib.ListN.{length}
use Rattle.format.specs.Lists.{whole_ones}
use Rattle.format.specs.Layout.{level_size}
use Rattle.run_length.specs.Runs.{place_of}
use Rattle.run_length.proofs.Passes.{UnrolledTo}
use Rattle.run_length.proofs.coding.LevelCoding.unroll.Given as goal

abbrev pub invariant-loop-self : goal.invariant-loop-self
invariant-loop-self l = UnrolledTo l.self.bits l.self.greatest l.declared l.payload (whole_ones level_size l.initial.levels) l.initial.levels l.run l.points l.levels

abbrev pub decreases-loop-self : goal.decreases-loop-self
decreases-loop-self l = length l.payload * 8 - place_of l.run
