-- `grouping::Ahead::is_less` meets its contract. Assumes nothing.
use native.Mathlib.Omega.{arith}
use Rattle.grouping.proofs.Looking.{looking-start, next-ordered, looking-stops, looking-more, looking-end}
use borrow.Author.Rules.{rules}
use Rattle.grouping.proofs.Ahead.is_less.Goals as goal

pub loop-i-init : goal.loop-i-init
loop-i-init c = (search rules, search looking-start)

pub width-requires : goal.width-requires
width-requires c = search next-ordered

pub returns-then-gain-count : goal.returns-then-gain-count
returns-then-gain-count c = search looking-stops

pub loop-i-preserved : goal.loop-i-preserved
loop-i-preserved c =
    (omega arith, looking-more _ _ _ _ (search rules) (search rules) (search rules) (search rules) (search rules) c.widened-window.ensures c.width.ensures.0 c.if-gain-count.false)

pub returns : goal.returns
returns c = looking-end _ _ _ _ (search rules) c.loop-i.invariant.1 (search rules) (omega arith)
