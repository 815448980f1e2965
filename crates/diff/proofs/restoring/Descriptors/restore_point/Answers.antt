-- `diff::restoring::Descriptors::restore_point` meets its contract. Assumes nothing.
use mathlib.Core.Path.{refl}
use native.Mathlib.Omega.{arith}
use Rattle.diff.proofs.Turns.{turn-missing, none-within, turn-beyond, turn-number}
use Rattle.diff.proofs.restoring.Descriptors.restore_point.Goals as goal

pub returns-then-mark_in-ne0 : goal.returns-then-mark_in-ne0
returns-then-mark_in-ne0 g c = search turn-missing

pub returns-in_default : goal.returns-in_default
returns-in_default g c = (refl, turn-beyond _ c.mark_in.ensures (omega arith) c.packed_in.ensures c.next-next.ensures (none-within _ c.new.ensures c.in_default.not-Some))

pub returns : goal.returns
returns g c =
    rw c.after.ensures
    (turn-number _ c.mark_in.ensures (omega arith) c.packed_in.ensures c.next-next.ensures c.new.ensures c.in-Some.is c.requires.0 c.signed.ensures c.store_signed.ensures)
