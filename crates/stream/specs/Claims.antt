-- What document 02, No. 2, says of reading a number, to be read beside it: "Gather the octets that a number touches, at most five,
-- into one 64-bit number, then shift once and take a remainder." The proofs stand in proofs/Claims.antt. Assumes nothing.
use Rattle.std.specs.Prelude.{◌≡◌, List, ℕ, ◌+◌, ◌-◌, ◌*◌, ◌/◌, ◌%◌, ◌^◌, ◌≤◌, ◌<◌, get_or}
use Rattle.format.specs.Bits.{number_at, span_of}
use Rattle.laws.specs.Bits.{Octets, gathered}

-- "the octets that a number touches": of width w, from bit s of the first of them on. It is document 01's span of one number.
abbrev pub touched : ℕ → ℕ → ℕ
touched s w = span_of s w 1

-- "at most five": for all widths and starting bits that document 01 lets a number have
abbrev pub AtMostFive : Type 0
AtMostFive = (s w : ℕ) → s ≤ 7 → w ≤ 32 → touched s w ≤ 5

-- "into one 64-bit number": five octets, and up to eight of them
abbrev pub OneNumber : Type 0
OneNumber = (octets : List ℕ) → Octets octets → (at n : ℕ) → n ≤ 8 → gathered octets at n < 2 ^ 64

-- "then shift once and take a remainder": of the octets that the number touches, and of any more that are gathered behind them
abbrev pub ShiftAndRemainder : Type 0
ShiftAndRemainder =
    (octets : List ℕ) → Octets octets → (at n s w : ℕ) → touched s w ≤ n
    → gathered octets at n / 2 ^ (n * 8 - s - w) % 2 ^ w ≡ number_at octets (at * 8 + s) w

-- the octets that it does not touch do not matter: where those that it touches are the same, wherever they stand, so is the number
abbrev pub OthersDoNotMatter : Type 0
OthersDoNotMatter =
    (octets others : List ℕ) (at there s w : ℕ)
    → ((i : ℕ) → i < touched s w → get_or octets (at + i) 0 ≡ get_or others (there + i) 0)
    → number_at octets (at * 8 + s) w ≡ number_at others (there * 8 + s) w

abbrev pub NumberTwo : Type 0
NumberTwo = AtMostFive × OneNumber × ShiftAndRemainder × OthersDoNotMatter
