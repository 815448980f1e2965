-- `groups::Groups::reference_of` meets its contract. Assumes nothing.
use Rattle.groups.proofs.Reading.{reference-read}
use Rattle.groups.proofs.Groups.reference_of.Goals as goal

pub returns : goal.returns
returns c = search reference-read
