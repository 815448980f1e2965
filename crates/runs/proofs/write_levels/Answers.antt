-- `runs::write_levels` meets its contract. Assumes nothing.
use native.Mathlib.Omega.{arith}
use Rattle.format.specs.Layout.{levels_in}
use Rattle.format.specs.WritingRunLength.{level_payload}
use Rattle.writer.proofs.Lent.{lent-refused, lent_written, first-ready, first_done}
use Rattle.runs.proofs.write_levels.Goals as goal

pub returns-then-payload-octets : goal.returns-then-payload-octets
returns-then-payload-octets c =
    lent-refused (level_payload c.args.coding.bits c.args.coding.greatest (levels_in c.args.levels.now)) _ c.requires.1 c.if-payload-octets.true

pub finish-requires : goal.finish-requires
finish-requires c = first-ready c.put_levels.ensures (omega arith)

pub returns : goal.returns
returns c =
    lent_written (level_payload c.args.coding.bits c.args.coding.greatest (levels_in c.args.levels.now)) _ c.requires.1 (omega arith) (first_done c.put_levels.ensures c.finish.ensures)
