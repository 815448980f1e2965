-- `section5::read_section5` meets its contract. Assumes nothing.
use Rattle.std.proofs.lemmas.Result.{err_from_is_err_and}
use Rattle.section5.proofs.Answers.{read-refused, front_length, front-room, read-room, read_done}
use Rattle.section5.proofs.read_section5.Goals as goal

pub returns-in_err-read : goal.returns-in_err-read
returns-in_err-read c =
    let p = err_from_is_err_and c.from_residual.result c.from_residual.ensures.1 in
    rw (p.1, p.2) (read-refused _ _ c.in_err-read.ensures)

pub returns-then-fields-count : goal.returns-then-fields-count
returns-then-fields-count c = search (read-room, c.in_ok-read.ensures)

pub slice_bounds-store_all-end : goal.slice_bounds-store_all-end
slice_bounds-store_all-end c = search (front_length, c.in_ok-read.ensures)

pub store_all-requires : goal.store_all-requires
store_all-requires c = search (front-room, c.in_ok-read.ensures)

pub returns : goal.returns
returns c = search (read_done, c.in_ok-read.ensures)
