-- `section5::fields::numbers_in` meets its contract. Assumes nothing.
use native.Mathlib.Omega.{arith}
use Rattle.section5.proofs.Rows.{filled_none, filled_more, filled-all}
use Rattle.section5.proofs.fields.numbers_in.Goals as goal

pub loop-k-init : goal.loop-k-init
loop-k-init c = search filled_none

pub loop-k-preserved : goal.loop-k-preserved
loop-k-preserved c = search filled_more

pub returns : goal.returns
returns c = filled-all _ c.loop-k.invariant (omega arith)
