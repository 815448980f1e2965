-- `diff::restoring::Descriptors::restore_later` meets its contract. Assumes nothing.
use Rattle.std.proofs.lemmas.Result.{err_from_is_err_and}
use Rattle.diff.proofs.Passes.{underway-more, underway-beyond, underway-end}
use Rattle.diff.proofs.restoring.Descriptors.restore_later.Goals as goal

pub returns-in_err-restoring : goal.returns-in_err-restoring
returns-in_err-restoring g c =
    let p = err_from_is_err_and c.from_residual.result c.from_residual.ensures.1 in
    rw (p.1, p.2, c.in_err-restoring.ensures.0) (underway-beyond c.loop-k.invariant c.loop-k-test.true c.in_err-restoring.ensures.1)

pub loop-k-preserved : goal.loop-k-preserved
loop-k-preserved g c = underway-more c.loop-k.invariant c.loop-k-test.true c.in_ok-restoring.ensures

pub returns : goal.returns
returns g c = underway-end c.loop-k.invariant c.loop-k-test.false
