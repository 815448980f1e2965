-- `coding::template_of` meets its contract. Assumes nothing.
use Rattle.coding.proofs.Codings.{template-is}
use Rattle.coding.proofs.template_of.Goals as goal

pub returns : goal.returns
returns c = search template-is
