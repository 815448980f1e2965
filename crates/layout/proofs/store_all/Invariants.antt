-- What the loop of `layout::store_all` keeps. Assumes nothing.
use lib.ListN.{take}
use Rattle.layout.proofs.Stores.{Things}
use Rattle.layout.proofs.store_all.Given as goal

abbrev pub invariant-loop-k : goal.invariant-loop-k
invariant-loop-k g l = Things g.T.InOctets.octets_of g.T.InOctets.SIZE l.initial.octets 0 (take l.k l.things) l.octets
