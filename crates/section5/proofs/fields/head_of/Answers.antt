-- `section5::fields::head_of` meets its contract. Assumes nothing.
use Rattle.section5.proofs.Rows.{head-is}
use Rattle.section5.proofs.fields.head_of.Goals as goal

pub returns : goal.returns
returns c = search head-is
