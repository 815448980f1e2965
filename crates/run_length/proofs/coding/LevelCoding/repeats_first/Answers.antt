-- `run_length::LevelCoding::repeats_first` meets its contract. Assumes nothing.
use Rattle.run_length.proofs.Codes.{first-none, first-is}
use borrow.Author.Rules.{rules}
use Rattle.run_length.proofs.coding.LevelCoding.repeats_first.Goals as goal

pub returns-then-ends : goal.returns-then-ends
returns-then-ends c = search (first-none, rules)

pub returns : goal.returns
returns c = rw c.read_number.ensures (search (first-is, rules))
