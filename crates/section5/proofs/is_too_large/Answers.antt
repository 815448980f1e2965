-- `section5::is_too_large` meets its contract. Assumes nothing.
use Rattle.section5.proofs.Writing.{large_is}
use Rattle.section5.proofs.is_too_large.Goals as goal

pub returns : goal.returns
returns c = search large_is
