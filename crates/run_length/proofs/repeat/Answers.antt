-- `run_length::repeat` meets its contract: nothing is stored where there is no room. Assumes nothing.
use Prim.Native.Nat.{◌-◌, min}
use mathlib.Core.Path.{◌≡◌}
use mathlib.Core.List.{flat_map}
use native.Mathlib.Omega.{arith}
use Rattle.format.specs.Lists.{whole_ones}
use Rattle.format.specs.Layout.{level_size}
use Rattle.run_length.proofs.repeat.Goals as goal

pub returns-else-from-end : goal.returns-else-from-end
unfolding flat_map
returns-else-from-end c = let e : min c.args.to (whole_ones level_size c.args.levels.now) - c.args.from ≡ 0 = omega arith in rw e
