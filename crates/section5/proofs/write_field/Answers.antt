-- `section5::write_field` meets its contract. Assumes nothing.
use Rattle.section5.proofs.Writing.{written_one}
use Rattle.section5.proofs.write_field.Goals as goal

pub returns : goal.returns
returns c = search written_one
