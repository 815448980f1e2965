-- `groups::Groups::length_of` meets its contract. Assumes nothing.
use Rattle.groups.proofs.Reading.{length_last, length-read}
use native.Mathlib.Omega.{arith}
use Rattle.groups.proofs.Groups.length_of.Goals as goal

pub returns-then-self-g : goal.returns-then-self-g
returns-then-self-g c = (length_last _ _ _ (omega arith) (search), λ l. omega arith)

pub returns : goal.returns
returns c = (search length-read, λ l. absurd (omega arith))
