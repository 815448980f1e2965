-- `section5::any_too_large` meets its contract. Assumes nothing.
use mathlib.Core.Path.{refl, ◌∙◌}
use native.Mathlib.Omega.{arith}
use Rattle.std.proofs.Common.{rules}
use Rattle.format.specs.Section5.{too_large}
use Rattle.section5.specs.Fields.{lent_field}
use Rattle.section5.proofs.Writing.{any-large}
use Rattle.section5.proofs.any_too_large.Goals as goal
use Rattle.std.proofs.lemmas.Iterator.{YieldsList-from_range}
use Rattle.std.proofs.lemmas.Iterator.Search.{any_from_yields_List}
use Rattle.section5.proofs.any_too_large.Goals as goal

pub returns : goal.returns
returns c =
    any_from_yields_List (λ k. too_large (lent_field c.args.fields.now k)) _ _ c.any.result c.any.ensures.ran (YieldsList-from_range 0 c.field_count.result c.field_count.result refl (omega arith)) (λ x b q k. search rules)
    ∙ any-large _ c.field_count.ensures c.requires
