-- A point's `store_at` meets its contract. Assumes nothing.
use mathlib.Core.Path.{◌≡◌, ap, ◌∙◌}
use borrow.Author.Rules.{rules}
use mir.Syntax.{w64}
use mir.Val.{to_z, of_z}
use Rattle.format.specs.Layout.{twos_complement, held_by}
use Rattle.layout.proofs.Stores.{signed-is, point-stored}
use Rattle.layout.proofs.DecodedValueInOctets.store_at.Goals as goal

pub returns : goal.returns
returns c =
    let z = c.held_by.result in
    let fits : to_z w64 (of_z w64 z) ≡ z = search rules in
    let pattern : c.cast_unsigned-pattern.result ≡ twos_complement (held_by c.args.self) = c.cast_unsigned-pattern.ensures ∙ ap (of_z w64) (fits) ∙ signed-is z ∙ ap twos_complement c.held_by.ensures in
    point-stored c.args.octets.now c.args.at c.args.self pattern c.store.ensures c.store-2.ensures c.mark_of.ensures
