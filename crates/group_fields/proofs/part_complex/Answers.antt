-- `group_fields::part_complex` meets its contract. Assumes nothing.
use Rattle.group_fields.proofs.Parts.{inside-52}
use Rattle.group_fields.proofs.part_complex.Goals as goal

pub part_taken-requires : goal.part_taken-requires
part_taken-requires c = search inside-52
