-- What the loop of `complex::store_points` keeps. Assumes nothing.
use mathlib.Core.Path.{◌≡◌}
use Rattle.complex.proofs.Groups.{Filled}
use Rattle.complex.proofs.store_points.Given as goal

abbrev pub invariant-loop-g : goal.invariant-loop-g
invariant-loop-g l = record { here : l.walk.group ≡ l.g; filled : Filled l.groups.places.references.0 l.groups.template l.groups.payload.now l.initial.points l.points l.walk }
