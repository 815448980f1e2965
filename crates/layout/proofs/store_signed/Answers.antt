-- `layout::store_signed` meets its contract. Assumes nothing.
use mathlib.Core.Path.{◌≡◌, ap, ◌∙◌}
use borrow.Author.Rules.{rules}
use lib.Seq.{sets}
use mir.Syntax.{w64}
use mir.Val.{to_z, of_z}
use Prim.Native.Nat.{ℕ, ◌+◌, ◌*◌}
use Rattle.format.specs.Layout.{big_endian}
use Rattle.layout.proofs.Stores.{signed-is}
use Rattle.layout.proofs.store_signed.Goals as goal

pub returns : goal.returns
returns c =
    let z = c.args.number in
    let fits : to_z w64 (of_z w64 z) ≡ z = search rules in
    c.store.ensures ∙ ap (λ (n : ℕ). sets c.args.octets.now (c.args.k * 9 + 1) (big_endian 8 n)) (c.cast_unsigned.ensures ∙ ap (of_z w64) fits ∙ signed-is z)
