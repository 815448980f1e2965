-- `section5::write_section5` meets its contract. Assumes nothing.
use native.Mathlib.Omega.{arith}
use Rattle.std.proofs.lemmas.Result.{err_from_is_err_and}
use Rattle.section5.proofs.Writing.{write-few, write-wrong, write-short, write-rest}
use Rattle.section5.proofs.write_section5.Goals as goal

pub returns-then-count-lt20 : goal.returns-then-count-lt20
returns-then-count-lt20 c = search write-few

pub returns-in_err-kind : goal.returns-in_err-kind
returns-in_err-kind c =
    let p = err_from_is_err_and c.from_residual.result c.from_residual.ensures.1 in
    rw (p.1, p.2) (write-wrong _ _ (omega arith) c.whole_in.ensures c.whole_in-2.ensures c.whole_in-3.ensures c.in_err-kind.ensures)

pub returns-then-count-field_count : goal.returns-then-count-field_count
returns-then-count-field_count c = search (write-short, c.in_ok-kind.ensures)

pub write_checked-requires : goal.write_checked-requires
write_checked-requires c = omega (arith, c.field_count.ensures.is)

pub returns : goal.returns
returns c = search (write-rest, c.in_ok-kind.ensures)
