-- What the loop of `coding::divisor_of` keeps, and why it ends: no number above the divisor divides, so that the search from it down finds the same. Assumes nothing.
use mathlib.Core.Path.{◌≡◌}
use Prim.Native.Nat.{◌<◌, ◌≤◌}
use Rattle.format.specs.Packing.{divisor_up_to}
use Rattle.coding.proofs.divisor_of.Given as goal

abbrev pub invariant-loop-divisor : goal.invariant-loop-divisor
invariant-loop-divisor l = (0 < l.divisor) × (l.divisor ≤ 255) × (divisor_up_to l.step 255 ≡ divisor_up_to l.step l.divisor)

abbrev pub decreases-loop-divisor : goal.decreases-loop-divisor
decreases-loop-divisor l = l.divisor
