-- Octets that are written bit by bit. Assumes nothing.
use Rattle.std.specs.Prelude.{◌≡◌, List, [], ◌∷◌, ◌++◌, ℕ, ◌+◌, ◌*◌, ◌≤◌, ltb, length}
use Rattle.format.specs.Lists.{◌over◌}
use Rattle.format.specs.Bits.{number_of, bit, octets_of, rounded_up}
use Rattle.format.specs.Refusals.{◌gives◌, first, Left, left}
use Rattle.format.specs.declared.Refusal.TheVariants.{Room}
use Rattle.format.specs.declared.OctetPlace.{OctetPlace}
use Rattle.format.specs.declared.Refusal.{Refusal}
use Rattle.std.specs.declared.result.Result.{Result}
use Rattle.std.specs.declared.result.Result.TheVariants.{Ok, Err}
use Rattle.std.proofs.Common.{lit≤, lit<}
use Rattle.laws.specs.Bits.{Bits}
use Rattle.writer.specs.declared.Pen.{Pen}

-- the string of bits is written: its first `at` octets stand in `octets`, which were `lent`, and the `pending` bits after them
-- make `number`
pub record Held (string lent octets : List ℕ) (at number pending : ℕ) : Type 0 where
  pub bits : Bits (bit string)
  pub count : length string ≡ at * 8 + pending
  pub value : number ≡ number_of (bit string) (at * 8) pending
  pub front : octets ≡ octets_of string at over lent
  pub long : length octets ≡ length lent

-- a pen on an octet of its own
abbrev pub fresh : OctetPlace → Pen
fresh place = record { place = place; number = 0; pending = 0; few = lit≤ tt; small = lit< tt }

-- room for n bits more
pub record Ready (p : Pen) (n : ℕ) (octets : List ℕ) : Type 0 where
  pub room : p.place.0 * 8 + p.pending + n ≤ length octets * 8

-- whatever was written before, the string `more` is written behind it
pub record Moved (p : Pen) (more octets octets' : List ℕ) (q : Pen) : Type 0 where
  pub place : q.place.0 * 8 + q.pending ≡ p.place.0 * 8 + p.pending + length more
  pub long : length octets' ≡ length octets
  pub held : (string lent : List ℕ) → Held string lent octets p.place.0 p.number p.pending
      → Held (string ++ more) lent octets' q.place.0 q.number q.pending

-- and at last all of it stands in the octets, padded with zeros
abbrev pub Finished : Pen → List ℕ → List ℕ → Type 0
Finished p octets octets' =
    (string lent : List ℕ) → Held string lent octets p.place.0 p.number p.pending
    → octets' ≡ octets_of string (rounded_up (length string)) over lent

-- "10 for the payload": it is written where it has room
abbrev pub payload_lent : List ℕ → List ℕ → Left (Result OctetPlace Refusal)
payload_lent payload lent =
    first (λ r. left (Err r) lent) (ltb (length lent) (length payload) gives Room ∷ [])
    (left (Ok (record { 0 = length payload })) (payload over lent))
