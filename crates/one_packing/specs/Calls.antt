-- Demand 3 of the C calls themselves: unpack, unpack, pack, pack, unpack, pack, and what their callers hold then. Every call's
-- promise is an equation with a definition, so that what is claimed of the definitions holds of the calls. Assumes nothing.
use Rattle.std.specs.Prelude.{◌≡◌, ◌↔◌, List, ℕ, ◌+◌, ◌*◌, ◌≤◌, ◌<◌, length, get_or, take}
use Rattle.format.specs.Lists.{whole_ones}
use Rattle.format.specs.Bits.{number_at}
use Rattle.format.specs.Layout.{number_size, numbers_in, point_size}
use Rattle.format.specs.Refusals.{left}
use Rattle.format.specs.Template.{template_by}
use Rattle.format.specs.Unpacking.{unpack52}
use Rattle.format.specs.Packing.{pack}
use Rattle.format.specs.declared.Template.{Template}
use Rattle.cleatmow.specs.Calls.{called, PackCall, called_pack}
use Rattle.one_packing.specs.Claims.{Sent, Lookahead, EnoughRoom, packed_by}

-- ---- calls that were made: what was handed over and lent, what came back, and what the call ensures of it

pub record UnpackMade : Type 0 where
  pub template : Template
  pub declared : ℕ
  pub payload : List ℕ
  pub lent : List ℕ
  pub number : ℕ
  pub points : List ℕ
  pub ensured : left number points ≡ called (unpack52 template declared payload lent)

pub record PackMade : Type 0 where
  pub lookahead : ℕ
  pub numbers : List ℕ
  pub groups : List ℕ
  pub payload : List ℕ
  pub summary : List ℕ
  pub back : PackCall
  pub ensured : back ≡ called_pack (pack lookahead (numbers_in numbers) groups payload summary)

-- ---- what their callers hold and do

-- number j of those that take four octets each
abbrev pub four_at : List ℕ → ℕ → ℕ
four_at octets j = number_at octets (j * 32) 32

-- the number of point j
abbrev pub eight_at : List ℕ → ℕ → ℕ
eight_at points j = number_at points ((j * point_size + 1) * 8) 64

-- "a point there is nine octets, the mark and then the number"; "A number to pack [..] take[s] four octets": each point has
-- mark 0, and the numbers to pack are the points' numbers
pub record Turned (count : ℕ) (points numbers : List ℕ) : Type 0 where
  pub all : whole_ones number_size numbers ≡ count
  pub marks : (j : ℕ) → j < count → get_or points (j * point_size) 0 ≡ 0
  pub same : (j : ℕ) → j < count → eight_at points j ≡ four_at numbers j

-- "Packing's eight template numbers, in the order of the cases, the group count and the payload length go to a lent 40
-- octets"; "Splitting method 1, missing management 0": the packing that a caller has, from the octets that were lent
abbrev pub sent_by : PackCall → Sent
sent_by back =
    let n : ℕ → ℕ = four_at back.summary in
    record {
      template = template_by (n 0) 1 0 (n 1) (n 2) (n 3) (n 4) (n 5) (n 6) (n 7);
      payload = take (n 9) back.payload;
    }

-- a packing that was unpacked, and its numbers packed with lookahead k and enough room
pub record Repacked (k : ℕ) (u : UnpackMade) (p : PackMade) : Type 0 where
  pub turned : Turned u.declared u.points p.numbers
  pub lookahead : p.lookahead ≡ k
  pub room : EnoughRoom (packed_by 0 k (numbers_in p.numbers)) p.groups p.payload p.summary

-- "accepted 5.2 packings (at least one point, none missing, no number above 2,147,483,647)": that none is missing `Turned` says
pub record Right (u : UnpackMade) : Type 0 where
  pub accepted : u.number ≡ 0
  pub some : 1 ≤ u.declared
  pub small : (j : ℕ) → j < u.declared → eight_at u.points j ≤ 2147483647

-- what was packed is unpacked, with as many points declared as numbers were packed, and room for them
pub record Resent (p : PackMade) (v : UnpackMade) : Type 0 where
  pub template : v.template ≡ (sent_by p.back).template
  pub payload : v.payload ≡ (sent_by p.back).payload
  pub declared : v.declared ≡ whole_ones number_size p.numbers
  pub room : v.declared * point_size ≤ length v.lent

-- ---- the claims

-- Round trip: whatever list a call of packing took (all points of a map or some, from 5.2 or from 5.3), the call that unpacks
-- what it gave leaves points of these numbers.
abbrev pub RoundTripOfCalls : Type 0
RoundTripOfCalls =
    (p : PackMade) (v : UnpackMade) → p.back.number ≡ 0 → Resent p v → (v.number ≡ 0) × Turned v.declared v.points p.numbers

-- Canonical and idempotent: of two packings a and b, packed again, and of what became of a, unpacked and packed once more. By
-- `Turned` the numbers packed are those in the points.
pub record Shown (a : UnpackMade) (pa pb : PackMade) (c : UnpackMade) (pc : PackMade) : Type 0 where
  pub packed : (pa.back.number ≡ 0) × (pb.back.number ≡ 0)
  pub canonical : (sent_by pa.back ≡ sent_by pb.back) ↔ (numbers_in pa.numbers ≡ numbers_in pb.numbers)
  pub unpacked : c.number ≡ 0
  pub returned : take (a.declared * point_size) c.points ≡ take (a.declared * point_size) a.points
  pub once_more : pc.back.number ≡ 0
  pub idempotent : sent_by pc.back ≡ sent_by pa.back

abbrev pub OfCalls : Type 0
OfCalls =
    (k : ℕ) → Lookahead k → (a b : UnpackMade) (pa pb : PackMade) (c : UnpackMade) (pc : PackMade)
    → Right a → Repacked k a pa → Right b → Repacked k b pb → Resent pa c → Repacked k c pc
    → Shown a pa pb c pc
