-- `grouping::Ahead::level_end` meets its contract. Assumes nothing.
use mathlib.Core.Path.{◌≡◌}
use native.Mathlib.Omega.{arith}
use Rattle.grouping.proofs.Levels.{level-behind, level-turn}
use borrow.Author.Rules.{rules}
use Rattle.grouping.proofs.Ahead.level_end.Goals as goal

pub loop-i-init : goal.loop-i-init
loop-i-init c =
    let s = c.args.self.now.seen in
    (omega arith, level-behind _ _ c.args.self.now.level (omega arith) (omega arith) s.flat (search rules))

pub returns-then-at-first : goal.returns-then-at-first
returns-then-at-first c = (omega arith, omega arith, search rules, λ l e. absurd (omega arith))

pub loop-i-preserved : goal.loop-i-preserved
loop-i-preserved c = (omega arith, search level-turn)

pub returns : goal.returns
returns c =
    let e : c.loop-i.i ≡ c.args.self.now.reach = omega arith in
    (omega arith, omega arith, rw e at c.loop-i.invariant.1, λ l e. absurd (omega arith))
