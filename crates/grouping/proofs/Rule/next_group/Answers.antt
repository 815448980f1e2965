-- `grouping::Rule::next_group` meets its contract. Assumes nothing.
use native.Mathlib.Omega.{arith}
use Rattle.numbers.proofs.Windows.{window-ordered}
use Rattle.grouping.proofs.Taking.{open-start, wider-ordered, ended, taken, last, known-none, known-later}
use Rattle.grouping.proofs.Rule.next_group.Goals as goal

pub width-width-requires : goal.width-width-requires
width-width-requires c = search window-ordered

pub loop-end-init : goal.loop-end-init
loop-end-init c = (search open-start, known-none _ _ _ (omega arith))

pub width-grown-requires : goal.width-grown-requires
width-grown-requires c = search wider-ordered

pub returns-in-None : goal.returns-in-None
returns-in-None c = let less = c.in-None.ensures in search ended

pub loop-end-preserved : goal.loop-end-preserved
loop-end-preserved c = let known = c.in-Some.ensures in let less = known.0 in (search taken, known-later known.1)

pub returns : goal.returns
returns c = search last
