-- What the loop of `layout::store_same` keeps. Assumes nothing.
use lib.ListN.{replicate}
use Rattle.layout.proofs.Stores.{Things}
use Rattle.layout.proofs.store_same.Given as goal

abbrev pub invariant-loop-k : goal.invariant-loop-k
invariant-loop-k g l = Things g.T.InOctets.octets_of g.T.InOctets.SIZE l.initial.octets l.from (replicate l.k l.thing) l.octets
