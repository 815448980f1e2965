-- The parts of a payload, from the records of its groups: what each is, and what the loops are asked. Assumes nothing.
use Rattle.std.specs.Prelude.{List, map, ℕ, ◌-◌, ◌*◌, ◌/◌, ◌^◌, ◌≤◌, ◌<◌, length}
use Rattle.std.specs.List.{sum_by}
use Rattle.format.specs.Lists.{least}
use Rattle.format.specs.Bits.{string_of}
use Rattle.format.specs.Refusals.{limit}
use Rattle.format.specs.Grouping.{width_of}
use Rattle.format.specs.declared.Group.{Group}
pub use Rattle.writer.specs.Pen.{payload_lent}
use Rattle.numbers.specs.Records.{IsAt}
use Rattle.section7.specs.declared.Coding.{Coding}
use Rattle.section7.specs.declared.Coding.TheVariants as coding

-- ---- codes

-- "group references at the number width, width codes, length codes": what is coded of a group, and in how many bits
abbrev pub bits_of : Coding → ℕ
bits_of (coding.References bits) = bits
bits_of (coding.Widths widths) = widths.bits
bits_of (coding.Lengths lengths) = lengths.bits

abbrev pub code_of : Coding → Group → ℕ
code_of (coding.References bits) g = g.least
code_of (coding.Widths widths) g = g.width - widths.reference
code_of (coding.Lengths lengths) g = (g.length - lengths.reference) / lengths.increment

-- the group is no less than the reference, and there is a step to divide by
abbrev pub CodedBy : Coding → Group → Type 0
CodedBy (coding.References bits) g = Unit {0}
CodedBy (coding.Widths widths) g = widths.reference ≤ g.width
CodedBy (coding.Lengths lengths) g = (lengths.reference ≤ g.length) × (0 < lengths.increment)

-- groups whose codes are there, and fit their bits
pub record Codable (c : Coding) (groups : List Group) : Type 0 where
  pub top : bits_of c ≤ 32
  pub coded : (k : ℕ) (g : Group) → k < length groups → IsAt groups k g → CodedBy c g
  pub fit : (k : ℕ) (g : Group) → k < length groups → IsAt groups k g → code_of c g < 2 ^ bits_of c

-- ---- values

-- those of a group, as a string of bits: what `value_string` joins
abbrev pub values_of : List ℕ → List ℕ
values_of group = string_of (width_of group) (map (λ number. number - least group) group)

abbrev pub group_bits : Group → ℕ
group_bits r = r.length * r.width

abbrev pub value_bits : List Group → ℕ
value_bits groups = sum_by group_bits groups

-- records whose bits are counted without wrapping
pub record FewBits (r : Group) : Type 0 where
  pub short : r.length ≤ limit
  pub narrow : r.width ≤ 32

pub record Countable (groups : List Group) : Type 0 where
  pub few : length groups ≤ limit
  pub each : (k : ℕ) (g : Group) → k < length groups → IsAt groups k g → FewBits g
