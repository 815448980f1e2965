-- `section5::fields::Fields::read` meets its contract. Assumes nothing.
use Rattle.std.proofs.lemmas.Result.{err_from_is_err_and}
use Rattle.section5.proofs.Rows.{fitting}
use Rattle.section5.proofs.Answers.{refused-head, refused-short, read_right}
use Rattle.section5.proofs.fields.Fields.read.Goals as goal

pub returns-in_err-kind : goal.returns-in_err-kind
returns-in_err-kind c =
    let p = err_from_is_err_and c.from_residual.result c.from_residual.ensures.1 in
    rw (p.1, p.2) (refused-head _ c.numbers_in-numbers.ensures c.head_of.ensures c.in_err-kind.ensures)

pub returns-then-section5-section_size : goal.returns-then-section5-section_size
returns-then-section5-section_size c = refused-short _ c.numbers_in-numbers.ensures c.head_of.ensures _ c.in_ok-kind.ensures c.section_size.ensures c.if-section5-section_size.true

pub invariant_of-result : goal.invariant_of-result
invariant_of-result c = record { fitting = fitting _ c.numbers_in-numbers.ensures }

pub returns : goal.returns
returns c = read_right _ c.numbers_in-numbers.ensures c.head_of.ensures _ c.in_ok-kind.ensures c.section_size.ensures c.if-section5-section_size.false
