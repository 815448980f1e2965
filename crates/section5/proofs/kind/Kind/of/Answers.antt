-- `section5::kind::Kind::of` meets its contract. Assumes nothing.
use mathlib.Core.Path.{refl}
use Rattle.std.proofs.lemmas.Result.{err_from_is_err_and}
use Rattle.section5.proofs.Rows.{wrong-template, wrong-length, wrong-number, right_head}
use Rattle.section5.proofs.kind.Kind.of.Goals as goal

pub returns-in_err-kind : goal.returns-in_err-kind
returns-in_err-kind c =
    let p = err_from_is_err_and c.from_residual.result c.from_residual.ensures.1 in
    rw (p.1, p.2) (c.in_err-kind.ensures.0, λ lent asked. wrong-template _ lent asked c.in_err-kind.ensures.1 c.in_err-kind.ensures.2)

pub returns-then-head-section_size : goal.returns-then-head-section_size
returns-then-head-section_size c = (refl, λ lent asked. wrong-length _ lent asked (rw (← c.in_ok-kind.ensures, ← c.section_size.ensures) c.if-head-section_size.true))

pub returns-then-head-ne5 : goal.returns-then-head-ne5
returns-then-head-ne5 c = (refl, λ lent asked. wrong-number _ lent asked c.if-head-ne5.true)

pub returns : goal.returns
returns c = (c.in_ok-kind.ensures, λ lent asked. right_head _ lent asked _ c.in_ok-kind.ensures (rw (← c.in_ok-kind.ensures, ← c.section_size.ensures) c.if-head-section_size.false) c.if-head-ne5.false)
