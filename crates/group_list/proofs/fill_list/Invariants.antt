-- Groups put into a list from its front: as many as are counted stand there. Assumes nothing.
use Rattle.std.proofs.Common.{◌≡◌}
use Rattle.format.specs.Lists.{listed, ◌over◌}
use Rattle.group_list.specs.Listing.{group_among}
use Rattle.group_list.proofs.fill_list.Given as goal

abbrev pub invariant-loop-k : goal.invariant-loop-k
invariant-loop-k l = l.place-items ≡ listed l.k (group_among l.numbers) over l.initial.place-items
