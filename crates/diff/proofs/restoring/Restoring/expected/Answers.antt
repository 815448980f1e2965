-- `diff::restoring::Restoring::expected` meets its contract. Assumes nothing.
use Rattle.diff.proofs.Biased.{expected-first, expected-second}
use Rattle.diff.proofs.restoring.Restoring.expected.Goals as goal

pub returns-then-this-eq1 : goal.returns-then-this-eq1
returns-then-this-eq1 g c = expected-first c.biased-previous.ensures.near c.biased-previous.ensures.is c.if-this-eq1.true

pub returns : goal.returns
returns g c = expected-second c.biased-previous.ensures.near c.biased-previous.ensures.is c.if-this-eq1.false c.biased.ensures.near c.biased.ensures.is
