-- `diff::kept::Kept::signed` meets its contract. Assumes nothing.
use Rattle.diff.proofs.Biased.{signed-is}
use Rattle.diff.proofs.kept.Kept.signed.Goals as goal

pub returns : goal.returns
returns c = signed-is _ c.self.invariant c.self.view_is
