-- `section5::named` meets its contract. Assumes nothing.
use Rattle.std.proofs.lemmas.Result.{err_from_is_err_and}
use Rattle.section5.proofs.Answers.{named-refused, named-complex, named-spatial}
use Rattle.section5.proofs.named.Goals as goal

pub returns-in_err-fields : goal.returns-in_err-fields
returns-in_err-fields c =
    let p = err_from_is_err_and c.from_residual.result c.from_residual.ensures.1 in
    rw (p.1, p.2) (named-refused _ c.in_err-fields.ensures)

pub returns-in-Complex : goal.returns-in-Complex
returns-in-Complex c = named-complex _ c.in_ok-fields.fields c.in_ok-fields.ensures c.declared-declared.ensures c.template-template.ensures c.in-Complex.is

pub returns-in-Spatial : goal.returns-in-Spatial
returns-in-Spatial c = named-spatial _ c.in_ok-fields.fields c.in_ok-fields.ensures c.declared-declared.ensures c.template-template.ensures c.in-Spatial.is c.differencing.ensures
