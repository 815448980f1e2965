-- `complex::store_each` meets its contract. Assumes nothing.
use Rattle.groups.proofs.Reading.{place-next}
use Rattle.complex.proofs.Points.{each_start, read_more}
use native.Mathlib.Omega.{arith}
use Rattle.complex.proofs.store_each.Goals as goal

pub loop-k-init : goal.loop-k-init
loop-k-init g c = record { place = omega arith; stored = each_start _ _ _ }

pub loop-k-preserved : goal.loop-k-preserved
loop-k-preserved g c = record { place = place-next c.requires.limits.1 c.loop-k.invariant.place c.loop-k-test.true; stored = search read_more }
