-- `numbers::greatest_of` meets its contract. Assumes nothing.
use mathlib.Core.Path.{refl, sym}
use Rattle.laws.specs.Lists.{length-listed}
use Rattle.format.specs.Lists.{greatest}
use borrow.Author.Rules.{rules}
use Rattle.numbers.proofs.Windows.{greatest-turn, greatest-all}
use Rattle.numbers.proofs.greatest_of.Goals as goal

pub loop-k-init : goal.loop-k-init
unfolding greatest
loop-k-init c = refl

pub number_at-requires : goal.number_at-requires
number_at-requires c = rw length-listed c.loop-k-test.true

pub loop-k-preserved : goal.loop-k-preserved
loop-k-preserved c =
    greatest-turn _ _ (sym (length-listed _ _)) c.loop-k.invariant c.loop-k-test.true c.number_at.ensures (search rules)

pub returns : goal.returns
returns c = greatest-all _ _ (sym (length-listed _ _)) c.loop-k.invariant c.loop-k-test.false
