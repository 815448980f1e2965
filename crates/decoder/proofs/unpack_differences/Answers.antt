-- `decoder::unpack_differences` meets its contract. Assumes nothing.
use Rattle.decoder.proofs.Restoring.{differences-within, differences-beyond}
use Rattle.decoder.proofs.unpack_differences.Goals as goal

pub returns-in-Ok : goal.returns-in-Ok
returns-in-Ok c = λ packed h. differences-within _ _ _ _ c.requires.2 c.restore.ensures packed h c.in-Ok.is

pub returns-in-Err : goal.returns-in-Err
returns-in-Err c = λ packed h. differences-beyond _ _ _ _ c.requires.2 c.restore.ensures packed h c.in-Err.is (search) c.store_same.ensures
