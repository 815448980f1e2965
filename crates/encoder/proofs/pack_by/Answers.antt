-- `encoder::pack_by` meets its contract. Assumes nothing.
use Rattle.std.proofs.lemmas.Result.{err_from_is_err_and}
use Rattle.coding.proofs.Codings.{codable}
use Rattle.encoder.proofs.Outcome.{refused-numbers, refused-summary, refused-groups, there, sound_records, coded, refused-payload, all_packed, octets-short}
use borrow.Author.Rules.{rules}
use Rattle.encoder.proofs.pack_by.Goals as goal

pub returns-in_err-rule : goal.returns-in_err-rule
returns-in_err-rule c =
    let p = err_from_is_err_and c.from_residual.result c.from_residual.ensures.1 in
    rw (p.1, p.2) (refused-numbers _ _ _ _ _ _ c.in_err-rule.ensures)

pub returns-then-summary-lt-SUMMARY_SIZE : goal.returns-then-summary-lt-SUMMARY_SIZE
returns-then-summary-lt-SUMMARY_SIZE c = let rule = c.in_ok-rule.ensures in search refused-summary

pub returns-in_err-count : goal.returns-in_err-count
returns-in_err-count c =
    let p = err_from_is_err_and c.from_residual-in_err-count.result c.from_residual-in_err-count.ensures.1 in
    let rule = c.in_ok-rule.ensures in
    let count = c.in_err-count.was in
    rw (p.1, p.2) (search refused-groups)

pub of-records-requires : goal.of-records-requires
of-records-requires c = there _ _ _ _ c.args.payload.now _ c.in_ok-rule.ensures c.if-summary-lt-SUMMARY_SIZE.false c.store_groups.ensures c.in_ok-count.was

pub template_of-template-requires : goal.template_of-template-requires
template_of-template-requires c =
    codable
    (sound_records _ _ _ _ c.args.payload.now _ c.in_ok-rule.ensures c.if-summary-lt-SUMMARY_SIZE.false c.store_groups.ensures c.in_ok-count.was c.of-records.ensures)

pub write_section7-requires : goal.write_section7-requires
write_section7-requires c = (
  sound_records _ _ _ _ c.args.payload.now _ c.in_ok-rule.ensures c.if-summary-lt-SUMMARY_SIZE.false c.store_groups.ensures c.in_ok-count.was c.of-records.ensures,
  coded _ _ _ _ c.args.payload.now _ c.in_ok-rule.ensures c.if-summary-lt-SUMMARY_SIZE.false c.store_groups.ensures c.in_ok-count.was c.of-records.ensures c.greatest.ensures c.template_of-template.ensures,
)

pub returns-in_err-octets : goal.returns-in_err-octets
returns-in_err-octets c =
    let p = err_from_is_err_and c.from_residual-in_err-octets.result c.from_residual-in_err-octets.ensures.1 in
    rw (p.1, p.2)
    (refused-payload _ _ _ _ _ _ c.in_ok-rule.ensures c.if-summary-lt-SUMMARY_SIZE.false c.store_groups.ensures c.in_ok-count.was c.of-records.ensures c.greatest.ensures c.template_of-template.ensures c.write_section7.ensures c.in_err-octets.was)

pub store_summary-requires : goal.store_summary-requires
store_summary-requires c = (
  search rules,
  octets-short _ _ _ _ _ _ c.in_ok-rule.ensures c.if-summary-lt-SUMMARY_SIZE.false c.store_groups.ensures c.in_ok-count.was c.of-records.ensures c.greatest.ensures c.template_of-template.ensures c.write_section7.ensures c.in_ok-octets.was,
)

pub returns : goal.returns
returns c =
    all_packed _ _ _ _ _ _ c.in_ok-rule.ensures c.if-summary-lt-SUMMARY_SIZE.false c.store_groups.ensures c.in_ok-count.was c.of-records.ensures c.greatest.ensures c.template_of-template.ensures c.write_section7.ensures c.in_ok-octets.was c.store_summary.ensures
