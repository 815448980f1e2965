-- `runs::four_stand` meets its contract. Assumes nothing.
use mathlib.Core.Path.{◌≡◌, ◌∙◌}
use mathlib.Core.List.{List}
use Prim.Native.Nat.{ℕ, ◌/◌}
use native.Mathlib.Omega.{arith}
use lib.ListN.{length}
use borrow.Author.Tests.{eqb-true}
use Rattle.format.specs.Layout.{levels_in}
use Rattle.laws.specs.Lists.{length-listed}
use Rattle.runs.proofs.Runs.{stands-four}
use Rattle.runs.proofs.four_stand.Goals as goal

-- the count of the levels, by their octets
long : {n : ℕ} (levels : List ℕ) → n ≡ length (levels_in levels) → n ≡ length levels / 2
long levels e = e ∙ length-listed _ _

pub overflow_add-place : goal.overflow_add-place
overflow_add-place c = omega (arith, long c.args.levels.now c.count_of.ensures)

pub overflow_mul-place : goal.overflow_mul-place
overflow_mul-place c = omega (arith, long c.args.levels.now c.count_of.ensures)

pub gathered_there-octets-requires : goal.gathered_there-octets-requires
gathered_there-octets-requires c = (omega arith, omega (arith, long c.args.levels.now c.count_of.ensures))

pub returns : goal.returns
returns c = λ e. stands-four _ (λ k. omega (arith, c.type_inv.levels k)) _ _ (omega arith) (omega (arith, c.count_of.ensures)) c.gathered_there-octets.ensures (eqb-true _ _ e)
