-- `runs::level_at` meets its contract. Assumes nothing.
use mathlib.Core.Path.{◌∙◌}
use native.Mathlib.Omega.{arith}
use Rattle.laws.specs.Lists.{length-listed}
use Rattle.laws.specs.Bits.{bit-lt, number_lt}
use Rattle.laws.specs.Stores.{field_at}
use Rattle.runs.proofs.level_at.Goals as goal

pub whole_in-requires : goal.whole_in-requires
whole_in-requires c = let l = rw length-listed at c.requires in (omega arith, omega arith)

pub returns : goal.returns
returns c =
    let l = rw length-listed at c.requires in
    let e = c.whole_in.ensures in
    (e ∙ field_at _ 16 _ _ l, rw e (number_lt (bit-lt 8 _) _ 16))
