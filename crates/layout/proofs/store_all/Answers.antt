-- `layout::store_all` meets its contract. Assumes nothing.
use native.Mathlib.Omega.{arith}
use native.Mathlib.Numerals.{add-one}
use lib.Seq.{take-suc, length-take-le}
use Rattle.layout.proofs.Stores.{none_stored, more_stored, all_stored}
use Rattle.layout.proofs.store_all.Goals as goal

pub loop-k-init : goal.loop-k-init
loop-k-init g c = none_stored g.T.InOctets.octets_of g.T.InOctets.SIZE c.args.octets.now 0

pub loop-k-preserved : goal.loop-k-preserved
loop-k-preserved g c =
    let things = c.args.things.now in
    let x = c.index-things-k.result in
    let k = c.loop-k.k in
    rw (add-one k, take-suc things k x c.loop-k-test.true, ← c.index-things-k.is)
    (more_stored g.T.InOctets.octets_of g.T.InOctets.SIZE c.args.octets.now 0 g.met.T.InOctets.long _ x k c.loop-k.invariant (omega (arith, length-take-le k things (omega arith))) c.store.ensures)

pub returns : goal.returns
returns g c = all_stored g.T.InOctets.octets_of g.T.InOctets.SIZE g.met.T.InOctets.long c.args.things.now c.args.octets.now c.loop-k.k c.loop-k.invariant c.loop-k-test.false c.requires
