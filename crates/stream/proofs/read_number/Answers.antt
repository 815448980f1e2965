-- `stream::read_number` meets its contract. Assumes nothing.
use Rattle.stream.proofs.Numbers.{number-placed}
use Rattle.stream.proofs.read_number.Goals as goal

pub returns : goal.returns
returns c = search number-placed
