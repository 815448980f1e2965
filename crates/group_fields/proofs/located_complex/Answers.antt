-- `group_fields::located_complex` meets its contract. Assumes nothing.
use mathlib.Core.Path.{◌∙◌}
use Rattle.group_fields.proofs.Order.{map_located, located-52}
use Rattle.group_fields.proofs.located_complex.Goals as goal

pub returns : goal.returns
returns c = map_located _ c.map.result c.map.ensures.cases ∙ located-52 _ _ _ c.surveyed_complex.ensures
