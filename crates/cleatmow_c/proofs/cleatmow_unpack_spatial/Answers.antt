-- `cleatmow_c::cleatmow_unpack_spatial` meets its contract: it is the one of the call behind it. Assumes nothing.
use Rattle.cleatmow_c.proofs.cleatmow_unpack_spatial.Goals as goal

pub returns : goal.returns
returns c = c.cleatmow_unpack_spatial.ensures
