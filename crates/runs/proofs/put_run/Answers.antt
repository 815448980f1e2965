-- `runs::put_run` meets its contract. Assumes nothing.
use native.Mathlib.Omega.{arith}
use Rattle.runs.proofs.Codes.{level-fits}
use Rattle.runs.proofs.Putting.{run-repeated-ready, run-repeated, run-level-ready, run-digits-ready, run_moved}
use Rattle.runs.proofs.put_run.Goals as goal

pub put_repeated-requires : goal.put_repeated-requires
put_repeated-requires c = (c.requires.0, run-repeated-ready c.args.coding c.args.run c.requires.2 c.if-coding-lt2.true)

pub returns-then-coding-lt2 : goal.returns-then-coding-lt2
returns-then-coding-lt2 c = run-repeated c.args.coding c.args.run c.requires.2 c.if-coding-lt2.true c.put_repeated.ensures

pub put-behind-requires : goal.put-behind-requires
put-behind-requires c = record { ready = run-level-ready c.args.coding c.args.run c.requires.2 c.if-coding-lt2.false; width_bound = (omega (arith, c.args.coding.accepted.few), level-fits c.args.coding c.requires.0) }

pub put_digits-requires : goal.put_digits-requires
put_digits-requires c = (omega arith, run-digits-ready c.args.coding c.args.run c.requires.2 c.if-coding-lt2.false c.put-behind.ensures)

pub returns : goal.returns
returns c = run_moved c.args.coding c.args.run c.requires.2 c.if-coding-lt2.false c.put-behind.ensures c.put_digits.ensures
