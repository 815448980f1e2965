-- `section5::row_at` meets its contract: the code's table is the definition's. Assumes nothing.
use Rattle.format.specs.Section5.{table}
use Rattle.section5.proofs.Rows.{in_table}
use borrow.Author.Rules.{rules}
use Rattle.section5.proofs.row_at.Goals as goal

pub returns : goal.returns
unfolding table
returns c = in_table _ (search rules)
