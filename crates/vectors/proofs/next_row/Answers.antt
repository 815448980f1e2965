-- `vectors::next_row` meets its contract: behind the row the input gives what its answer takes. Assumes nothing.
use Rattle.std.proofs.Common.{rules}
use Rattle.std.proofs.KnownBytes.{Consumes-trans}
use Rattle.vectors.proofs.next_row.Goals as goal

pub returns-in_err-next_packing : goal.returns-in_err-next_packing
returns-in_err-next_packing g c =
    let (given, next) = c.in_err-next_packing.ensures in
    let all = Consumes-trans _ _ _ _ _ c.in_ok-read_full.ensures.given next in
    search rules
