-- The points of all groups, group by group. Assumes nothing.
use mathlib.Core.Path.{◌≡◌, refl, sym, ap, ◌∙◌}
use mathlib.Core.List.{List, flat_map}
use Prim.Native.Nat.{ℕ, ◌+◌, ◌*◌, ◌≤◌, ◌<◌}
use native.Mathlib.Omega.{arith}
use lib.ListN.{length}
use lib.Seq.{sets, length-sets}
use Rattle.format.specs.Lists.{listed, joined, ◌over◌}
use Rattle.format.specs.Layout.{point_size, point_octets}
use Rattle.format.specs.Template.{values_at}
use Rattle.format.specs.Unpacking.{Codes, codes_of, group_length, points_before, bits_before, Said, said_by, point_at, points_up_to}
use Rattle.format.specs.declared.Template.{Template}
use Rattle.format.specs.declared.Places.{Places}
use Rattle.format.specs.declared.BitPlace.{BitPlace}
use Rattle.format.specs.declared.DecodedValue.{DecodedValue}
use Rattle.laws.specs.Accepting.{Laid}
use Rattle.laws.specs.Lists.{length-listed, listed-ext, joined-next}
use Rattle.laws.specs.Points.{size-point, length-points, points-within, point-read}
use Rattle.laws.specs.Small.{width_low, reference-low}
use Rattle.laws.specs.Stores.{flat-over}
use Rattle.groups.specs.declared.PackedGroup.{PackedGroup}
use Rattle.groups.specs.declared.Walk.{Walk}
use Rattle.groups.specs.Packed.{coded_group, value_point, Limited}
use Rattle.groups.specs.Walk.{Walking, at_first, Further}
use Rattle.groups.proofs.Walking.{walking_start, walking-step}
use Rattle.complex.specs.Room.{Roomy}

-- the points of the groups that are walked are stored
pub record Filled (start : ℕ) (t : Template) (payload lent points : List ℕ) (walk : Walk) : Type 0 where
  pub walking : Walking t (codes_of start t payload) walk
  pub long : length points ≡ length lent
  pub there : points ≡ flat_map point_octets (points_up_to t (said_by start t payload) walk.group) over lent

pub filled-start : (start : ℕ) (t : Template) (payload lent : List ℕ) → Filled start t payload lent lent at_first
unfolding points_up_to joined flat_map
filled-start start t payload lent = record { walking = walking_start; long = refl; there = refl }

-- a group's points, as the definition has them
points-of-group : (start : ℕ) (t : Template) (payload : List ℕ) (g : ℕ) → g < t.groups
    → listed (group_length t (codes_of start t payload) g) (value_point t (coded_group t (codes_of start t payload) g) payload (values_at start t * 8 + bits_before t (codes_of start t payload) g))
    ≡ listed (group_length t (codes_of start t payload) g) (point_at t (said_by start t payload) g)
unfolding value_point
points-of-group start t payload g l = listed-ext (group_length t (codes_of start t payload) g) _ _ (λ k m. sym (point-read start t payload g k l m))

module _ {t : Template} {places : Places} (laid : Laid t places) (payload lent : List ℕ) {points : List ℕ} {walk : Walk}
    (roomy : Roomy t (codes_of places.references.0 t payload) (length lent)) (x : Filled places.references.0 t payload lent points walk) where
  abbrev codes : Codes
  codes = codes_of places.references.0 t payload

  abbrev said : Said
  said = said_by places.references.0 t payload

  module _ {g : ℕ} (eg : walk.group ≡ g) (l : g < t.groups) {group : PackedGroup} (eg' : group ≡ coded_group t codes g) where
    er : group ≡ coded_group t codes walk.group
    er = rw eg eg'

    within : walk.points + group.length ≤ points_before t codes t.groups
    within = rw er (omega (arith, points-within t codes t.groups walk.group (omega arith), x.walking.count))

    pub filled-width : group.width ≤ 31
    filled-width = rw er (width_low t codes roomy.right walk.group (omega arith))

    pub filled-length : group.length ≤ 4294967295
    filled-length = omega (arith, within, roomy.few)

    pub filled-room : (walk.points + group.length) * point_size ≤ length points
    filled-room = omega (arith, within, roomy.room, x.long)

    module _ {values : BitPlace} (ev : values.0 ≡ places.values.0 * 8) where
      pub filled-limited : Limited group (values.0 + walk.bits)
      filled-limited = record {
        reference = rw er (reference-low places.references.0 t payload laid.passing.width walk.group (omega arith));
        width = filled-width;
        length = omega (arith, within, roomy.few);
        place = omega arith;
      }

      pub filled_more : {after : List ℕ} {next : Walk} → after ≡ sets points (walk.points * point_size) (flat_map point_octets (listed group.length (value_point t group payload (values.0 + walk.bits))))
          → Further walk group.width group.length next → Filled places.references.0 t payload lent after next
      unfolding points_up_to said_by
      filled_more {after} {next} e step = record {
        walking = walking-step x.walking (omega arith) (ap (λ (r : PackedGroup). r.width) er) (ap (λ (r : PackedGroup). r.length) er) filled-width filled-length step;
        long = ap length e ∙ simp length-sets x.long;
        there =
            let done = points_up_to t said walk.group in
            let more = listed (group_length t codes walk.group) (point_at t said walk.group) in
            let place : walk.points ≡ length done = x.walking.count ∙ sym (length-points t said walk.group) in
            let size : length more ≡ group.length = length-listed (group_length t codes walk.group) (point_at t said walk.group) ∙ sym (ap (λ (r : PackedGroup). r.length) er) in
            let begins : values.0 + walk.bits ≡ values_at places.references.0 t * 8 + bits_before t codes walk.group = omega arith in
            let points-are : listed group.length (value_point t group payload (values.0 + walk.bits)) ≡ more = rw (er, begins) (points-of-group places.references.0 t payload walk.group (omega arith)) in
            rw step.group
            (e ∙ rw (points-are, x.there, place) (flat-over point_octets point_size size-point lent done more (omega (arith, place, size, within, roomy.room)))
            ∙ ap (λ (l : List DecodedValue). flat_map point_octets l over lent) (sym (joined-next walk.group (λ i. listed (group_length t codes i) (point_at t said i)))));
      }

  pub filled-end : t.groups ≤ walk.group → points ≡ flat_map point_octets (points_up_to t said t.groups) over lent
  filled-end l =
      let e : walk.group ≡ t.groups = omega (arith, x.walking.some) in
      x.there ∙ ap (λ (i : ℕ). flat_map point_octets (points_up_to t said i) over lent) e
