-- `section7::put_values` meets its contract. Assumes nothing.
use Rattle.std.proofs.Common.{arith}
use mathlib.Core.List.{flat_map}
use Rattle.format.specs.Packing.{value_string}
use Rattle.writer.proofs.Pens.{moved_none}
use Rattle.section7.proofs.Values.{countable, group-recorded, group-ready, group-moved, groups-moved}
use Rattle.section7.proofs.put_values.Goals as goal

pub loop-k-init : goal.loop-k-init
unfolding value_string flat_map
loop-k-init c = moved_none c.args.pen c.args.payload.now

pub put_group-here-requires : goal.put_group-here-requires
put_group-here-requires c =
    let h = c.requires.recorded in
    record {
      recorded = (group-recorded h c.loop-k.k (omega arith) c.at.ensures, (countable h).each c.loop-k.k _ (omega arith) c.at.ensures);
      ready = group-ready h c.loop-k.k (omega arith) c.at.ensures c.loop-k.invariant c.requires.ready;
    }

pub loop-k-preserved : goal.loop-k-preserved
loop-k-preserved c = group-moved c.requires.recorded c.loop-k.k (omega arith) c.at.ensures c.loop-k.invariant c.put_group-here.ensures

pub returns : goal.returns
returns c = groups-moved c.requires.recorded c.loop-k.k (omega arith) c.loop-k.invariant
