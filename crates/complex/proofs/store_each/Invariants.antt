-- What the loop of `complex::store_each` keeps. Assumes nothing.
use mathlib.Core.Path.{◌≡◌}
use Prim.Native.Nat.{◌+◌, ◌*◌}
use Rattle.groups.specs.Packed.{value_point}
use Rattle.complex.proofs.Points.{Each}
use Rattle.complex.proofs.store_each.Given as goal

abbrev pub invariant-loop-k : goal.invariant-loop-k
invariant-loop-k g l = record { place : l.bit ≡ l.initial.bit + l.k * l.group.width; stored : Each l.initial.points l.from (value_point l.template l.group l.payload l.initial.bit) l.k l.points }
