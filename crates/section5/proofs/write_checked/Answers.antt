-- `section5::write_checked` meets its contract. Assumes nothing.
use Rattle.section5.proofs.Writing.{checked-large, checked-room, checked-done}
use Rattle.section5.proofs.write_checked.Goals as goal

pub returns-then-any_too_large : goal.returns-then-any_too_large
returns-then-any_too_large c = search checked-large

pub returns-then-section5-size : goal.returns-then-section5-size
returns-then-section5-size c = search checked-room

pub returns : goal.returns
returns c = search checked-done
