-- `numbers::Numbers::at` meets its contract. Assumes nothing.
use mathlib.Core.Path.{ap, ◌∙◌}
use mathlib.Core.List.{List}
use Prim.Native.Nat.{ℕ}
use lib.ListN.{get_or}
use Rattle.numbers.proofs.Numbers.at.Goals as goal

pub number_at-requires : goal.number_at-requires
number_at-requires c = rw (← c.self.view_is) at c.requires

pub returns : goal.returns
returns c = c.number_at.ensures ∙ ap (λ (l : List ℕ). get_or l c.args.k 0) c.self.view_is
