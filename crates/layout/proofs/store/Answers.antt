-- `layout::store` meets its contract. Assumes nothing.
use mathlib.Core.Path.{◌≡◌, refl}
use native.Mathlib.Omega.{arith}
use Rattle.format.specs.Lists.{listed}
use Rattle.layout.proofs.Stores.{octet-stored}
use Rattle.layout.proofs.store.Goals as goal

pub loop-i-init : goal.loop-i-init
unfolding listed
loop-i-init c = refl

pub loop-i-preserved : goal.loop-i-preserved
loop-i-preserved c = octet-stored c.args.octets.now c.args.at c.args.x c.args.n c.loop-i.i c.loop-i.invariant c.octet_in.ensures

pub returns : goal.returns
returns c =
    let all : c.loop-i.i ≡ c.args.n = omega arith in
    rw all at c.loop-i.invariant
