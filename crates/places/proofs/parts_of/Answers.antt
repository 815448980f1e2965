-- `places::parts_of` meets its contract. Assumes nothing.
use Rattle.format.specs.Template.{widths_at, lengths_at, values_at}
use Rattle.format.specs.Unpacking.{places_of}
use Rattle.places.proofs.parts_of.Goals as goal

pub returns : goal.returns
unfolding places_of widths_at lengths_at values_at
returns c = cc
