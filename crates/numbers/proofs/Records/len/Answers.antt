-- `numbers::Records::len` meets its contract. Assumes nothing.
use Rattle.std.proofs.Common.{length, sym, ap, ◌∙◌}
use Rattle.laws.specs.Lists.{length-listed}
use Rattle.numbers.proofs.Records.len.Goals as goal

pub returns : goal.returns
returns c = sym (length-listed _ _) ∙ ap length c.self.view_is
