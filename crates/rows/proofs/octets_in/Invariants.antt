-- The word began at or before the octet that is next, and that one is none past the end: the second and the third of the fields.
use Rattle.std.proofs.Common.{◌≤◌, length}
use Rattle.rows.proofs.octets_in.Given as goal

abbrev pub invariant-loop-character : goal.invariant-loop-character
invariant-loop-character l = record { word_before : l.reading.1.0 ≤ l.reading.1.1.0; in_octets : l.reading.1.1.0 ≤ length l.octets }
