-- A group's `store_at` meets its contract. Assumes nothing.
use native.Mathlib.Omega.{arith}
use Rattle.format.specs.Layout.{group_octets}
use Rattle.laws.specs.Groups.{group-size}
use Rattle.layout.proofs.Stores.{all_of_part}
use Rattle.layout.proofs.GroupInOctets.store_at.Goals as goal

pub returns : goal.returns
returns c = all_of_part c.args.octets.now c.args.at _ (group_octets c.args.self) c.store_all.ensures (omega (arith, group-size c.args.self)) (omega arith)
