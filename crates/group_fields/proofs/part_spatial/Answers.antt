-- `group_fields::part_spatial` meets its contract. Assumes nothing.
use Rattle.group_fields.proofs.Parts.{inside-53}
use Rattle.group_fields.proofs.part_spatial.Goals as goal

pub part_taken-requires : goal.part_taken-requires
part_taken-requires c = search inside-53
