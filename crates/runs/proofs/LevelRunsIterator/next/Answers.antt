-- The runs come one by one. Assumes nothing.
use Rattle.std.proofs.Common.{ap, length, arith, rules}
use Rattle.runs.proofs.Runs.{begins-runs, runs-none}
use Rattle.runs.proofs.LevelRunsIterator.next.Goals as goal

pub returns-then-count_of-self-clause-steps : goal.returns-then-count_of-self-clause-steps
returns-then-count_of-self-clause-steps c = let e = runs-none _ c.args.self.now.place (omega (arith, c.count_of.ensures)) in (e, e)

pub returns-clause-steps : goal.returns-clause-steps
returns-clause-steps c = begins-runs c.run_at-run.ensures

pub returns-clause-goes : goal.returns-clause-goes
returns-clause-goes c = let e = ap length (begins-runs c.run_at-run.ensures) in search rules
