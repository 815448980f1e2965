-- `grouping::Rule::store_groups` meets its contract. Assumes nothing.
use Rattle.grouping.proofs.Filling.{stored-none, stored_more, stored-full, stored-all}
use Rattle.grouping.proofs.Rule.store_groups.Goals as goal

pub loop-start-init : goal.loop-start-init
loop-start-init g c = search stored-none

pub returns-then-room-k : goal.returns-then-room-k
returns-then-room-k g c = search stored-full

pub loop-start-preserved : goal.loop-start-preserved
loop-start-preserved g c = stored_more _ _ _ _ _ c.loop-start.invariant g.met.S.Slot.each c.next_group-group.ensures c.room-room.ensures c.if-room-k.false c.store.ensures

pub returns : goal.returns
returns g c = search stored-all
