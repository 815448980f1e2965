-- `grouping::groups_of` meets its contract. Assumes nothing.
use Rattle.std.proofs.lemmas.Result.{err_from_is_err_and}
use Rattle.grouping.proofs.Refusing.{slots-refused, slots_filled}
use Rattle.grouping.proofs.groups_of.Goals as goal

pub returns-in_err-of : goal.returns-in_err-of
returns-in_err-of c =
    let p = err_from_is_err_and c.from_residual.result c.from_residual.ensures.1 in
    rw (p.1, p.2) (slots-refused _ _ (rw c.of-numbers.ensures at c.in_err-of.ensures) _)

pub returns : goal.returns
returns c =
    let h = c.in_ok-of.ensures in
    slots_filled _ _ (rw c.of-numbers.ensures at h.0) _ (rw (h.1, h.2, h.3, c.of-numbers.ensures) at c.store_groups.ensures)
