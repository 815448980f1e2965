-- A level's `store_at` meets its contract. Assumes nothing.
use mathlib.Core.Path.{◌∙◌}
use native.Mathlib.Omega.{arith}
use Rattle.layout.proofs.Stores.{number_stored}
use Rattle.layout.proofs.U16InOctets.store_at.Goals as goal

pub returns : goal.returns
returns c = number_stored c.args.octets.now c.args.at _ 2 c.args.self (c.copy_from_slice.ensures.after ∙ c.to_be_bytes.ensures) (omega arith) (omega arith)
