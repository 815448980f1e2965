-- `coding::widths_of` meets its contract. The first width, so the least too, is 32 at most. Assumes nothing.
use Rattle.std.proofs.Common.{rules}
use Rattle.numbers.proofs.Windows.{window-ordered}
use Rattle.coding.proofs.Firsts.{least-width, widths-coded}
use Rattle.coding.proofs.widths_of.Goals as goal

pub overflow_cast-result : goal.overflow_cast-result
overflow_cast-result c = search least-width

pub width-requires : goal.width-requires
width-requires c = search (window-ordered, rules)

pub returns : goal.returns
returns c = search widths-coded
