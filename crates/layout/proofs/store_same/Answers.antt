-- `layout::store_same` meets its contract. Assumes nothing.
use mathlib.Core.Path.{sym, ap}
use Prim.Native.Nat.{ℕ, ◌+◌}
use Rattle.std.proofs.lemmas.List.{replicate-append-replicate, length-replicate}
use Rattle.layout.proofs.Stores.{none_stored, more_stored}
use Rattle.layout.proofs.store_same.Goals as goal

pub loop-k-init : goal.loop-k-init
loop-k-init g c = none_stored g.T.InOctets.octets_of g.T.InOctets.SIZE c.args.octets.now c.args.from

pub loop-k-preserved : goal.loop-k-preserved
loop-k-preserved g c =
    let x = c.args.thing in
    let k = c.loop-k.k in
    rw (← replicate-append-replicate k 1 x)
    (more_stored g.T.InOctets.octets_of g.T.InOctets.SIZE c.args.octets.now c.args.from g.met.T.InOctets.long _ x _ c.loop-k.invariant
    (ap (λ (n : ℕ). c.args.from + n) (sym (length-replicate k x))) c.store.ensures)
