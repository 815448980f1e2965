-- `runs::end_from` meets its contract. Assumes nothing.
use mathlib.Core.Path.{◌≡◌, sym, ◌∙◌}
use native.Mathlib.Omega.{arith}
use borrow.Author.Tests.{ne_eqb}
use Rattle.runs.proofs.Runs.{starts-not, starts_is, stands_one, stands_on}
use Rattle.runs.proofs.end_from.Goals as goal

pub returns-then-level_at-level : goal.returns-then-level_at-level
returns-then-level_at-level c =
    (c.loop-k.invariant, sym (starts_is _ _ _ c.count_of-count.ensures c.loop-k-test.true c.level_at.ensures.0) ∙ ne_eqb _ _ c.if-level_at-level.true)

pub loop-k-preserved : goal.loop-k-preserved
loop-k-preserved c = stands_on c.loop-k.invariant (stands_one (omega (arith, c.count_of-count.ensures)) (sym c.if-level_at-level.false ∙ c.level_at.ensures.0))

pub returns : goal.returns
returns c =
    let e : c.loop-k.k ≡ c.count_of-count.result = omega (arith, c.count_of-count.ensures) in
    (rw e at c.loop-k.invariant, sym (starts-not _ _ c.count_of-count.result c.count_of-count.ensures (omega arith)))
