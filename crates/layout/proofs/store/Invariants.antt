-- What the loop of `layout::store` keeps: after i turns i octets are stored. Assumes nothing.
use mathlib.Core.Path.{◌≡◌}
use Prim.Native.Nat.{suc, ◌-◌, ◌/◌, ◌%◌, ◌^◌}
use lib.Seq.{sets}
use Rattle.format.specs.Lists.{listed}
use Rattle.layout.proofs.store.Given as goal

abbrev pub invariant-loop-i : goal.invariant-loop-i
invariant-loop-i l = l.octets ≡ sets l.initial.octets l.at (listed l.i (λ k. l.x / 256 ^ (l.n - suc k) % 256))
