-- `numbers::Numbers::len` meets its contract. Assumes nothing.
use mathlib.Core.Path.{sym, ap, ◌∙◌}
use lib.ListN.{length}
use Rattle.laws.specs.Lists.{length-listed}
use Rattle.numbers.proofs.Numbers.len.Goals as goal

pub returns : goal.returns
returns c = sym (length-listed _ _) ∙ ap length c.self.view_is
