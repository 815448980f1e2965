-- `section5::write_fields` meets its contract. Assumes nothing.
use Rattle.section5.proofs.Writing.{written_none, row_room, written-more, written_all}
use Rattle.section5.proofs.write_fields.Goals as goal

pub loop-k-init : goal.loop-k-init
loop-k-init c = search written_none

pub write_field-requires : goal.write_field-requires
write_field-requires c = search row_room

pub loop-k-preserved : goal.loop-k-preserved
loop-k-preserved c = search written-more

pub returns : goal.returns
returns c = search written_all
