-- What the loop of `stream::gathered_there` keeps: the last k octets are gathered. Assumes nothing.
use Rattle.std.proofs.Common.{◌≡◌, ◌+◌, ◌-◌}
use Rattle.laws.specs.Bits.{gathered}
use Rattle.stream.proofs.gathered_there.Given as goal

abbrev pub invariant-loop-k : goal.invariant-loop-k
invariant-loop-k g l = l.number ≡ gathered l.octets (l.place.0 + (g.row.N - l.k)) l.k
