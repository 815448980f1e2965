-- `section5::fields::Fields::template` meets its contract. Assumes nothing.
use Rattle.section5.proofs.Rows.{template-is}
use Rattle.section5.proofs.fields.Fields.template.Goals as goal

pub returns : goal.returns
returns c = search template-is
