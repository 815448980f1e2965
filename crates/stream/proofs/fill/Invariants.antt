-- What the loop of `stream::fill` keeps: the numbers passed are read. Assumes nothing.
use Rattle.std.proofs.Common.{◌≡◌, ℕ, ◌+◌, ◌*◌, ◌<◌, get_or}
use Rattle.format.specs.Bits.{number_at}
use Rattle.stream.proofs.fill.Given as goal

abbrev pub invariant-loop-k : goal.invariant-loop-k
invariant-loop-k l = (k : ℕ) → k < l.k → get_or l.numbers k 0 ≡ number_at l.octets (l.start.0 + k * l.width) l.width
