-- The place is one of the sixteen.
use Rattle.std.proofs.Common.{◌≤◌}
use Rattle.rows.proofs.numbers_in.Given as goal

abbrev pub invariant-loop-character : goal.invariant-loop-character
invariant-loop-character l = l.k ≤ 15
