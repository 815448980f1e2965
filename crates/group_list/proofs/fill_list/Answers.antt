-- A turn puts one group behind those in front. Assumes nothing.
use Rattle.std.proofs.Common.{arith, refl, ◌≡◌, ◌/◌, length, take}
use Rattle.std.proofs.lemmas.List.{drop_all, append-nil, length-take}
use Rattle.format.specs.Lists.{listed}
use Rattle.format.specs.Layout.{numbers_per_group}
use Rattle.group_list.specs.Listing.{group_among, fitting_of}
use Rattle.laws.specs.Lists.{grown, length-listed}
use Rattle.group_list.proofs.Fours.{four-group}
use Rattle.group_list.proofs.fill_list.Goals as goal

pub loop-k-init : goal.loop-k-init
unfolding listed
loop-k-init c = refl

pub loop-k-preserved : goal.loop-k-preserved
loop-k-preserved c =
    let numbers = c.args.numbers.now in
    let group = four-group (length numbers / numbers_per_group) numbers c.loop-k.k (omega (arith, length-take c.fitting-fits.result c.args.list.now)) in
    let turn = grown (group_among numbers) (take c.fitting-fits.result c.args.list.now) c.loop-k.k c.loop-k-test.true in
    cc

pub returns : goal.returns
returns c =
    let lent = c.args.list.now in
    let n = c.fitting-fits.result in
    let fits : n ≡ fitting_of c.args.count (length lent) (length c.args.numbers.now) = c.fitting-fits.ensures in
    let all : c.loop-k.k ≡ n = omega (arith, length-take n lent) in
    rw (← fits, c.loop-k.invariant, all, length-listed, drop_all n (take n lent) (omega (arith, length-take n lent)), append-nil)
