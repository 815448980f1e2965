-- `complex::store_points` meets its contract. Assumes nothing.
use mathlib.Core.Path.{refl}
use Rattle.complex.proofs.Groups.{filled-start, filled-width, filled-length, filled-room, filled-limited, filled_more, filled-end}
use native.Mathlib.Omega.{arith}
use Rattle.complex.proofs.store_points.Goals as goal

pub loop-g-init : goal.loop-g-init
loop-g-init c = record { here = refl; filled = filled-start _ _ _ _ }

pub store_group_points-requires : goal.store_group_points-requires
store_group_points-requires c = (c.args.groups.now.laid.passing.width, search filled-limited, search filled-room)

pub past-walk-requires : goal.past-walk-requires
past-walk-requires c = (omega arith, omega arith, omega arith, search filled-width, search filled-length)

pub loop-g-preserved : goal.loop-g-preserved
loop-g-preserved c = record { here = omega arith; filled = search filled_more }

pub returns : goal.returns
returns c = filled-end c.args.groups.now.laid c.args.groups.now.payload.now c.args.points.now c.requires c.loop-g.invariant.filled (omega arith)
