-- A group by value, and its points. Assumes nothing.
use Rattle.std.specs.Prelude.{ℕ, ◌+◌, ◌-◌, ◌*◌, ◌/◌, ◌^◌, ◌≤◌, ◌<◌, Bool, ◌&&◌, List, ltb, leb, length}
use Rattle.format.specs.Bits.{number_at}
use Rattle.format.specs.Refusals.{limit}
use Rattle.format.specs.Unpacking.{Codes, reference_of, group_width, group_length, point_of}
use Rattle.format.specs.declared.Template.{Template}
use Rattle.format.specs.declared.DecodedValue.{DecodedValue}
use Rattle.groups.specs.declared.PackedGroup.{PackedGroup}
use Rattle.groups.specs.declared.HolderGroup.{HolderGroup}
use Rattle.groups.specs.declared.Walk.{Walk}

-- group g, as the codes say
abbrev pub coded_group : Template → Codes → ℕ → PackedGroup
coded_group t codes g = record { reference = reference_of codes g; width = group_width t codes g; length = group_length t codes g }

-- the group that a walk stands at, where the values of all begin at that octet
abbrev pub holder_group : Template → Codes → ℕ → Walk → HolderGroup
holder_group t codes values walk = record {
  reference = reference_of codes walk.group;
  width = group_width t codes walk.group;
  first = walk.points;
  values = record { 0 = values * 8 + walk.bits };
}

-- point k of a group whose values begin at bit p
unfoldable pub value_point : Template → PackedGroup → List ℕ → ℕ → ℕ → DecodedValue
value_point t r payload p k = point_of t r.width r.reference (number_at payload (p + k * r.width) r.width)

-- a group within document 01's limits, somewhere in a payload
pub record Limited (r : PackedGroup) (p : ℕ) : Type 0 where
  pub reference : r.reference < 2 ^ 31
  pub width : r.width ≤ 31
  pub length : r.length ≤ limit
  pub place : p < 2 ^ 62

-- it has values, and eight octets are there from each of them on
abbrev pub all_there : PackedGroup → List ℕ → ℕ → Bool
all_there r payload p = ltb 0 r.width && leb ((p + r.length * r.width) / 8 + 8) (length payload)

-- ---- in the group that holds a place of the list

-- what reading a value of it asks: a group within document 01's limits, and a place that is near
pub record Readable (h : HolderGroup) (place : ℕ) : Type 0 where
  pub reference : h.reference < 2 ^ 31
  pub width : h.width ≤ 31
  pub values : h.values.0 < 2 ^ 62
  pub begins : h.first ≤ place
  pub near : place < h.first + limit

-- the point there, of its own bits
unfoldable pub held_point : Template → HolderGroup → List ℕ → ℕ → DecodedValue
held_point t h payload place =
    point_of t h.width h.reference (number_at payload (h.values.0 + (place - h.first) * h.width) h.width)
