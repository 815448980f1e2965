-- What a C call comes to. Assumes nothing.
use Rattle.std.specs.Prelude.{ℕ, List, ℤ}
use Rattle.std.specs.declared.result.Result.{Result}
use Rattle.std.specs.declared.result.Result.TheVariants.{Ok, Err}
use Rattle.format.specs.Layout.{mark_of, held_by}
use Rattle.format.specs.Refusals.{Left, left, refusal_number, answer_number}
use Rattle.format.specs.Packing.{LeftPacked}
use Rattle.format.specs.declared.DecodedValue.{DecodedValue}
use Rattle.format.specs.declared.Differencing.{Differencing}
use Rattle.format.specs.declared.OctetPlace.{OctetPlace}
use Rattle.format.specs.declared.Refusal.{Refusal}

-- "The call returns the refusal's number, or 0.": the number of an answer, and the buffer as the operation left it
abbrev pub called : {A : Type 0} → Left (Result A Refusal) → Left ℕ
called outcome = left (answer_number outcome.answer) outcome.buffer

-- the order and the octets of a descriptor
abbrev pub given_differencing : ℕ → ℕ → Differencing
given_differencing order octets = record { order = order; octets = octets }

-- what the call for one point comes to: its number, and the two values that were lent for a point's mark and number, as they are
-- left
pub record PointCall : Type 0 where
  pub number : ℕ
  pub mark : ℕ
  pub held : ℤ

-- "one point (mark and number)"; a refusal leaves both values as they were
abbrev pub called_point : Result DecodedValue Refusal → ℕ → ℤ → PointCall
called_point (Ok point) mark held = record { number = 0; mark = mark_of point; held = held_by point }
called_point (Err r) mark held = record { number = refusal_number r; mark = mark; held = held }

-- what the call that writes levels comes to: its number, the payload, and the value that was lent for its octets, as they are
-- left
pub record WriteCall : Type 0 where
  pub number : ℕ
  pub payload : List ℕ
  pub octets : ℕ

-- a refusal leaves the value as it was
abbrev octets_left : Result OctetPlace Refusal → ℕ → ℕ
octets_left (Ok octets) before = octets.0
octets_left (Err r) before = before

abbrev pub called_write : Left (Result OctetPlace Refusal) → ℕ → WriteCall
called_write w before = record { number = answer_number w.answer; payload = w.buffer; octets = octets_left w.answer before }

-- what packing's call comes to: its number, and what was lent, as it is left
pub record PackCall : Type 0 where
  pub number : ℕ
  pub groups : List ℕ
  pub payload : List ℕ
  pub summary : List ℕ

abbrev pub called_pack : LeftPacked → PackCall
called_pack p = record { number = answer_number p.answer; groups = p.groups; payload = p.payload; summary = p.summary }
