-- `runs::run_at` meets its contract. Assumes nothing.
use native.Mathlib.Omega.{arith}
use Rattle.laws.specs.Lists.{length-listed}
use Rattle.runs.proofs.Runs.{stands_one, stands_on, stands-end}
use borrow.Author.Rules.{rules}
use Rattle.runs.proofs.run_at.Goals as goal

pub overflow_add-place : goal.overflow_add-place
overflow_add-place c = let l = rw length-listed at c.requires in search rules

pub returns : goal.returns
returns c =
    let behind = stands_on c.fours_from-fours.ensures c.end_from-end.ensures.0 in
    stands-end _ (omega (arith, behind.low)) (stands_on (stands_one c.requires c.level_at-level.ensures.0) behind) c.end_from-end.ensures.1
