-- The octets of a payload fit their value. Assumes nothing.
use Rattle.runs.proofs.Few.{octets-few}
use Rattle.cleatmow.proofs.cleatmow_write_run_length.Goals as goal

pub overflow_cast-octets : goal.overflow_cast-octets
overflow_cast-octets c = record { fits = octets-few _ _ _ _ c.in-Ok.ensures }
