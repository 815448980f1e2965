-- `cleatmow::cleatmow_unpack_spatial` meets its contract, by the equations of the calls behind it. Assumes nothing.
use Rattle.std.proofs.Common.{ap}
use Rattle.cleatmow.specs.Calls.{called}
use Rattle.cleatmow.proofs.cleatmow_unpack_spatial.Goals as goal

pub returns : goal.returns
returns c =
    let e = rw c.template_by-template.ensures at c.unpack_spatial.ensures in
    rw c.answer_number.ensures (ap called e)
