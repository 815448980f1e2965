-- `section5::fields::Fields::differencing` meets its contract. Assumes nothing.
use Rattle.section5.proofs.Rows.{differencing-is}
use Rattle.section5.proofs.fields.Fields.differencing.Goals as goal

pub returns : goal.returns
returns c = search differencing-is
