-- What the loop of `grouping::Rule::store_groups` keeps, and why it ends. Assumes nothing.
use Prim.Native.Nat.{◌-◌}
use Rattle.grouping.proofs.Filling.{GroupsStored}
use Rattle.grouping.proofs.Rule.store_groups.Given as goal

abbrev pub invariant-loop-start : goal.invariant-loop-start
invariant-loop-start g l =
    GroupsStored l.self.numbers.now l.self.lookahead l.self.added g.S.Slot.stored g.S.Slot.PER_GROUP (g.S.Slot.items l.initial.slots) (g.S.Slot.items l.slots) l.start l.k

abbrev pub decreases-loop-start : goal.decreases-loop-start
decreases-loop-start g l = l.count - l.start
