-- Demand 3, "one map, one packing", to be read beside it. The proofs stand in proofs/. Assumes nothing.
use Rattle.std.specs.Prelude.{◌≡◌, ◌↔◌, ℕ, ◌*◌, ◌≤◌, ◌<◌, length, get_or, pos}
use mathlib.Core.List.{List, map, flat_map}
use Rattle.format.specs.Lists.{◌over◌}
use Rattle.format.specs.Layout.{in_fours, point_size, point_octets, mark_of, held_by, twos_complement, group_size}
use Rattle.format.specs.Refusals.{limit, left, answer_number}
use Rattle.format.specs.Unpacking.{codes_of, group_width, group_length, said_by, points_up_to, unpack52}
use Rattle.format.specs.Grouping.{width_of, groups_of, number_refusals}
use Rattle.format.specs.Packing.{packing_of, summary_numbers, summary_size, LeftPacked, pack}
use Rattle.format.specs.declared.DecodedValue.{DecodedValue}
use Rattle.format.specs.declared.DecodedValue.TheVariants.{Normal, Missing1}
use Rattle.format.specs.declared.Packed.{Packed}
use Rattle.format.specs.declared.Refusal.{Refusal}
use Rattle.format.specs.declared.Template.{Template}
use Rattle.laws.specs.First.{Clear}
use Rattle.std.specs.declared.result.Result.{Result}
use Rattle.std.specs.declared.result.Result.TheVariants.{Ok}

-- ---- a packing under template 5.2, as it is sent: by our packer or by any other

pub record Sent : Type 0 where
  pub template : Template
  pub payload : List ℕ

-- its points
abbrev pub points_in : Sent → List DecodedValue
points_in sent = points_up_to sent.template (said_by 0 sent.template sent.payload) sent.template.groups

-- the number that a point holds, as it stands in the point's octets, and all of them
abbrev pub held_number : DecodedValue → ℕ
held_number point = twos_complement (held_by point)

abbrev pub numbers_of : Sent → List ℕ
numbers_of sent = map held_number (points_in sent)

-- a number as a point
abbrev pub number_point : ℕ → DecodedValue
number_point number = Normal (pos number)

-- Unpacking accepts it and gives its points, whatever is lent with room for them. It accepts no count but theirs (9), and that
-- it does so with one lent buffer is enough: no other refusal looks at what is lent.
abbrev pub Accepted : Sent → Type 0
Accepted sent =
    (lent : List ℕ) → length (points_in sent) * point_size ≤ length lent
    → left (Ok (length (points_in sent))) (flat_map point_octets (points_in sent) over lent)
    ≡ unpack52 sent.template (length (points_in sent)) sent.payload lent

-- "accepted 5.2 packings (at least one point, none missing, no number above 2,147,483,647)"
pub record Demanded (sent : Sent) : Type 0 where
  pub accepted : Accepted sent
  pub some : 1 ≤ length (points_in sent)
  pub none-missing : (k : ℕ) → k < length (points_in sent) → mark_of (get_or (points_in sent) k Missing1) ≡ 0
  pub small : (k : ℕ) → k < length (points_in sent) → get_or (numbers_of sent) k 0 ≤ 2147483647

-- ---- packing, by a rule that adds some cost for ending a group: document 01's adds 0

-- "with one lookahead", from 1 to 65,535
pub record Lookahead (k : ℕ) : Type 0 where
  pub some : 1 ≤ k
  pub few : k ≤ 65535

abbrev pub packed_by : ℕ → ℕ → List ℕ → Sent
packed_by added k numbers =
    let p = packing_of numbers (groups_of width_of added k numbers) in
    record { template = p.template; payload = p.payload }

-- "unpack [..] and pack them again"
abbrev pub again : ℕ → ℕ → Sent → Sent
again added k sent = packed_by added k (numbers_of sent)

-- a list that packing accepts with a lookahead: no row of 13 refuses it
abbrev pub Acceptable : ℕ → List ℕ → Type 0
Acceptable k numbers = Clear (number_refusals k numbers)

-- lent buffers with room for a packing
pub record EnoughRoom (sent : Sent) (groups payload summary : List ℕ) : Type 0 where
  pub for-groups : sent.template.groups * group_size ≤ length groups
  pub for-payload : length sent.payload ≤ length payload
  pub for-summary : summary_size ≤ length summary

-- what packing gives, besides the group list
pub record Given : Type 0 where
  pub answer : Result Packed Refusal
  pub payload : List ℕ
  pub summary : List ℕ

abbrev pub given_by : LeftPacked → Given
given_by p = record { answer = p.answer; payload = p.payload; summary = p.summary }

-- Packing accepts the numbers where there is room, and gives this packing.
abbrev pub Packs : ℕ → List ℕ → Sent → Type 0
Packs k numbers sent =
    (groups payload summary : List ℕ) → EnoughRoom sent groups payload summary
    → given_by (pack k numbers groups payload summary)
    ≡ record {
      answer = Ok (record { template = sent.template; octets = record { 0 = length sent.payload } });
      payload = sent.payload over payload;
      summary = in_fours (summary_numbers sent.template sent.template.groups (length sent.payload)) over summary;
    }

-- ---- the claims

-- what packing reports is within unpacking's limits, and within the octets that the template numbers have
pub record WithinLimits (sent : Sent) : Type 0 where
  pub width : sent.template.width ≤ 31
  pub some-groups : 1 ≤ sent.template.groups
  pub few-groups : sent.template.groups ≤ limit
  pub width-reference : sent.template.widths.reference ≤ 255
  pub width-bits : sent.template.widths.bits ≤ 32
  pub length-reference : sent.template.lengths.reference ≤ 4294967295
  pub increment : sent.template.lengths.increment ≤ 255
  pub last : sent.template.lengths.last ≤ 4294967295
  pub length-bits : sent.template.lengths.bits ≤ 32
  pub widths : (g : ℕ) → g < sent.template.groups → group_width sent.template (codes_of 0 sent.template sent.payload) g ≤ 31
  pub lengths : (g : ℕ) → g < sent.template.groups → group_length sent.template (codes_of 0 sent.template sent.payload) g ≤ 4294967295
  pub payload : length sent.payload ≤ 4294967295

-- Round trip: for every list that packing accepts and every lookahead, the packing is accepted with the list's length
-- declared, and unpacks to the list.
pub record Returned (numbers : List ℕ) (sent : Sent) : Type 0 where
  pub accepted : Accepted sent
  pub points : points_in sent ≡ map number_point numbers
  pub limits : WithinLimits sent

abbrev pub RoundTrip : ℕ → Type 0
RoundTrip added = (k : ℕ) (numbers : List ℕ) → Acceptable k numbers → Returned numbers (packed_by added k numbers)

-- Packing accepts what is demanded: "unpack any two [..] and pack them again"
abbrev pub Repackable : Type 0
Repackable = (k : ℕ) → Lookahead k → (a : Sent) → Demanded a → Acceptable k (numbers_of a)

-- Canonical: "equal parameters and octets exactly when they held the same numbers"
abbrev pub Canonical : ℕ → Type 0
Canonical added =
    (k : ℕ) → Lookahead k → (a b : Sent) → Demanded a → Demanded b
    → (again added k a ≡ again added k b) ↔ (points_in a ≡ points_in b)

-- Idempotent: "the result unpacks to those numbers; doing it again changes no octet"
pub record Unchanged (a once twice : Sent) : Type 0 where
  pub demanded : Demanded once
  pub points : points_in once ≡ points_in a
  pub same : twice ≡ once

abbrev pub Idempotent : ℕ → Type 0
Idempotent added =
    (k : ℕ) → Lookahead k → (a : Sent) → Demanded a → Unchanged a (again added k a) (again added k (again added k a))

-- All of this holds of what packing gives by document 01's rule: of a list that it accepts it gives this packing where there is
-- room, and where it gives any, the list was one that it accepts, and there was room.
abbrev pub ByPacking : Type 0
ByPacking = (k : ℕ) (numbers : List ℕ) → Acceptable k numbers → Packs k numbers (packed_by 0 k numbers)

abbrev pub ByPackingAlone : Type 0
ByPackingAlone =
    (k : ℕ) (numbers groups payload summary : List ℕ) → answer_number (pack k numbers groups payload summary).answer ≡ 0
    → Acceptable k numbers × EnoughRoom (packed_by 0 k numbers) groups payload summary

-- Demand 3, whole
abbrev pub DemandThree : Type 0
DemandThree = RoundTrip 0 × Repackable × Canonical 0 × Idempotent 0 × ByPacking × ByPackingAlone
