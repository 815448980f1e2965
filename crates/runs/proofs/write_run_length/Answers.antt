-- `runs::write_run_length` meets its contract. Assumes nothing.
use native.Mathlib.Omega.{arith}
use Rattle.std.proofs.lemmas.Result.{err_from_is_err_and}
use Rattle.runs.proofs.Answer.{refused-code, refused-many, refused-above, span-counted, left-to-room}
use Rattle.runs.proofs.write_run_length.Goals as goal

pub returns-in_err-coding : goal.returns-in_err-coding
returns-in_err-coding c =
    let p = err_from_is_err_and c.from_residual.result c.from_residual.ensures.1 in
    rw (p.1, p.2) (refused-code _ _ _ _ _ c.in_err-coding.ensures)

pub returns-then-count_of : goal.returns-then-count_of
returns-then-count_of c = refused-many _ _ _ _ c.in_ok-coding.ensures.0 (omega (arith, c.count_of.ensures))

pub returns-in_err-octets : goal.returns-in_err-octets
returns-in_err-octets c =
    let p = err_from_is_err_and c.from_residual-in_err-octets.result c.from_residual-in_err-octets.ensures.1 in
    let k = c.in_ok-coding.ensures in
    rw (p.1, p.2) (refused-above _ _ _ _ k.0 (omega (arith, c.count_of.ensures)) k.1 k.2 c.octets_of.ensures c.in_err-octets.was)

pub write_levels-requires : goal.write_levels-requires
write_levels-requires c = span-counted _ _ _ c.octets_of.ensures c.in_ok-octets.was

pub returns : goal.returns
returns c =
    let k = c.in_ok-coding.ensures in
    left-to-room _ _ _ _ k.0 (omega (arith, c.count_of.ensures)) k.1 k.2 c.octets_of.ensures c.in_ok-octets.was c.write_levels.ensures
