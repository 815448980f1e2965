-- What document 02, No. 3, asks to be shown, to be read beside it. The proofs stand in proofs/Claims.antt, and what shows that each
-- premise is needed in proofs/Needed.antt. Assumes nothing.
use Rattle.std.specs.Prelude.{◌≡◌, ◌↔◌, ◌⊎◌, List, ℕ, ◌+◌, ◌*◌, ◌≤◌, ◌<◌, length, take, drop}
use Rattle.format.specs.Bits.{bit_at}
use Rattle.format.specs.Layout.{point_size, point_octets}
use Rattle.format.specs.Refusals.{refusal_number, left}
use Rattle.format.specs.Unpacking.{codes_of, reference_of, group_width, group_length, points_before, unpack52}
use Rattle.format.specs.Section5.{named_by, unpack_section5}
use Rattle.format.specs.Point.{point52, point_section5}
use Rattle.format.specs.declared.Refusal.{Refusal}
use Rattle.format.specs.declared.Refusal.TheVariants.{Place}
use Rattle.format.specs.declared.Template.{Template}
use Rattle.format.specs.declared.DecodedValue.{DecodedValue}
use Rattle.format.specs.declared.Named.TheVariants as named
use Rattle.laws.specs.Points.{value_place}
use Rattle.std.specs.declared.result.Result.TheVariants.{Ok, Err}

-- ---- "With room enough for the map, the answer equals that place in the full unpacking, and refusals 1 to 9 are the same."

-- the octets of a lent buffer at a place of the list
abbrev pub octets_at : ℕ → List ℕ → List ℕ
octets_at place buffer = take point_size (drop (place * point_size) buffer)

-- a point that is answered
pub record Answered (place : ℕ) (t : Template) (declared : ℕ) (payload : List ℕ) : Type 0 where
  pub point : DecodedValue
  pub is : point52 place t declared payload ≡ Ok point

module _ (place : ℕ) (t : Template) (declared : ℕ) (payload lent : List ℕ) where
  -- the map is unpacked into what is lent
  abbrev pub IsUnpacked : Type 0
  IsUnpacked = (unpack52 t declared payload lent).answer ≡ Ok declared

  pub record AsUnpacked : Type 0 where
    -- "refusals 1 to 9 are the same", in both directions
    pub refused : (r : Refusal) → refusal_number r ≤ 9
        → (point52 place t declared payload ≡ Err r) ↔ ((unpack52 t declared payload lent).answer ≡ Err r)
    -- "15 when the place is not below the declared count" of a map that is unpacked
    pub past : (point52 place t declared payload ≡ Err Place) ↔ (IsUnpacked × (declared ≤ place))
    -- "10 does not arise", nor does any other
    pub no_other : (r : Refusal) → point52 place t declared payload ≡ Err r → (refusal_number r ≤ 9) ⊎ (r ≡ Place)
    -- "the answer equals that place in the full unpacking": its octets, which are of no other point, since its number has 32 bits
    pub same : (point : DecodedValue) → point52 place t declared payload ≡ Ok point
        → IsUnpacked × (place < declared) × (octets_at place (unpack52 t declared payload lent).buffer ≡ point_octets point)
    -- and there is one at each place of a map that is unpacked
    pub there : IsUnpacked → place < declared → Answered place t declared payload

abbrev pub PlaceOfUnpacking : Type 0
PlaceOfUnpacking =
    (place : ℕ) (t : Template) (declared : ℕ) (payload lent : List ℕ) → declared * point_size ≤ length lent → AsUnpacked place t declared payload lent

-- The calls take Section 5. Where it names 5.2, both read its declared count and its template numbers, so that all of this is said
-- of them; and 14 is the same too.
pub record Alike (place : ℕ) (section5 payload lent : List ℕ) : Type 0 where
  pub one-point : (declared : ℕ) (t : Template) → named_by section5 ≡ Ok (named.Complex declared t)
      → point_section5 place section5 payload ≡ point52 place t declared payload
  pub whole-map : (declared : ℕ) (t : Template) → named_by section5 ≡ Ok (named.Complex declared t)
      → unpack_section5 section5 payload lent ≡ unpack52 t declared payload lent
  pub refused : (r : Refusal) → named_by section5 ≡ Err r
      → (point_section5 place section5 payload ≡ Err r) × (unpack_section5 section5 payload lent ≡ left (Err r) lent)

abbrev pub BySection5 : Type 0
BySection5 = (place : ℕ) (section5 payload lent : List ℕ) → Alike place section5 payload lent

-- ---- "Show too that the answer depends only on the place, the template numbers, declared count, payload length, width and length
-- codes, the point's group reference and the point's own bits: the other values may change freely."

-- point k of group g is the one at the place. A payload that is refused has none.
pub record Own (place : ℕ) (t : Template) (declared : ℕ) (payload : List ℕ) (g k : ℕ) : Type 0 where
  pub answered : Answered place t declared payload
  pub among : g < t.groups
  pub inside : k < group_length t (codes_of 0 t payload) g
  pub there : place ≡ points_before t (codes_of 0 t payload) g + k

-- Two payloads agree in all of this, and may differ in all else: in pad bits and in octets after the last value, in all other
-- values and references, and in the last length code, which is ignored.
pub record Agree (place : ℕ) (t : Template) (declared : ℕ) (a b : List ℕ) : Type 0 where
  pub octets : length a ≡ length b
  pub widths : (codes_of 0 t a).widths ≡ (codes_of 0 t b).widths
  pub lengths : (codes_of 0 t a).lengths ≡ (codes_of 0 t b).lengths
  pub reference : (g k : ℕ) → Own place t declared a g k → reference_of (codes_of 0 t a) g ≡ reference_of (codes_of 0 t b) g
  pub bits : (g k : ℕ) → Own place t declared a g k → (i : ℕ) → i < group_width t (codes_of 0 t a) g
      → bit_at a (value_place 0 t (codes_of 0 t a) g k + i) ≡ bit_at b (value_place 0 t (codes_of 0 t a) g k + i)

abbrev pub DependsOnlyOn : Type 0
DependsOnlyOn =
    (place : ℕ) (t : Template) (declared : ℕ) (a b : List ℕ) → Agree place t declared a b → point52 place t declared a ≡ point52 place t declared b

abbrev pub NumberThree : Type 0
NumberThree = PlaceOfUnpacking × BySection5 × DependsOnlyOn
