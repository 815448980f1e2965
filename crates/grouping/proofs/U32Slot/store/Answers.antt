-- A group's four numbers are stored as the trait says. Assumes nothing.
use native.Mathlib.Omega.{arith}
use Rattle.format.specs.Layout.{group_numbers}
use Rattle.layout.proofs.Stores.{part_stored}
use Rattle.grouping.proofs.U32Slot.store.Goals as goal

pub returns : goal.returns
returns c = part_stored c.args.slots.now _ _ _ (group_numbers c.args.group) c.copy_from_slice.ensures.after (omega arith) (omega arith)
