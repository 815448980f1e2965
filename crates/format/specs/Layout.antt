-- Document 01, "Port order and changes of shape": how points, levels, numbers and groups lie in lent octets, "all
-- big-endian; spare octets short of a whole one are not used". Assumes nothing.
use Rattle.std.specs.Prelude.{ℕ, suc, ◌-◌, ◌*◌, ◌/◌, ◌%◌, ◌^◌, ℤ, pos, negsuc}
use mathlib.Core.List.{List, [], ◌∷◌, flat_map}
use Rattle.format.specs.Lists.{listed, whole_ones}
use Rattle.format.specs.Bits.{field_of}
use Rattle.format.specs.declared.DecodedValue.{DecodedValue}
use Rattle.format.specs.declared.DecodedValue.TheVariants.{Normal, Missing1, Missing2}
use Rattle.format.specs.declared.Group.{Group}

-- x in n octets
abbrev pub big_endian : ℕ → ℕ → List ℕ
big_endian n x = listed n (λ i. x / 256 ^ (n - suc i) % 256)

-- "A number to pack and each of a group's four numbers take four octets"
abbrev pub number_size : ℕ
number_size = 4

abbrev pub numbers_in : List ℕ → List ℕ
numbers_in octets = field_of octets 0 32 (whole_ones number_size octets)

abbrev pub in_fours : List ℕ → List ℕ
in_fours numbers = flat_map (big_endian number_size) numbers

-- "a level two"
abbrev pub level_size : ℕ
level_size = 2

abbrev pub level_octets : ℕ → List ℕ
level_octets level = big_endian level_size level

abbrev pub levels_in : List ℕ → List ℕ
levels_in octets = field_of octets 0 16 (whole_ones level_size octets)

-- "a signed 64-bit number and a mark (0 number, 1, 2) a point; a missing point holds number 0"
abbrev pub mark_of : DecodedValue → ℕ
mark_of (Normal z) = 0
mark_of Missing1 = 1
mark_of Missing2 = 2

abbrev pub held_by : DecodedValue → ℤ
held_by (Normal z) = z
held_by Missing1 = pos 0
held_by Missing2 = pos 0

-- "big-endian two's complement"
abbrev pub twos_complement : ℤ → ℕ
twos_complement (pos n) = n
twos_complement (negsuc n) = 2 ^ 64 - suc n

-- "a point there is nine octets, the mark and then the number"
abbrev pub point_size : ℕ
point_size = 9

abbrev pub point_octets : DecodedValue → List ℕ
point_octets d = mark_of d ∷ big_endian 8 (twos_complement (held_by d))

-- "four numbers each: start, length, least number, width"
abbrev pub group_numbers : Group → List ℕ
group_numbers g = g.start ∷ g.length ∷ g.least ∷ g.width ∷ []

abbrev pub numbers_per_group : ℕ
numbers_per_group = 4

abbrev pub group_size : ℕ
group_size = numbers_per_group * number_size

abbrev pub group_octets : Group → List ℕ
group_octets g = in_fours (group_numbers g)
