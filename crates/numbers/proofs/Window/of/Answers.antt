-- `numbers::Window::of` meets its contract. Assumes nothing.
use native.Mathlib.Nat.{max-zero}
use Rattle.format.specs.Lists.{greatest, least}
use Rattle.numbers.proofs.Window.of.Goals as goal

pub returns : goal.returns
unfolding greatest least
returns c = rw max-zero
