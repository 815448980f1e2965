-- The claims of document 02, No. 2. Assumes nothing.
use mathlib.Core.Path.{◌≡◌, refl, ap, ◌∙◌}
use mathlib.Core.List.{List}
use Prim.Native.Nat.{ℕ, zero, suc, ◌+◌, ◌-◌, ◌*◌, ◌/◌, ◌%◌, ◌^◌, ◌<◌}
use native.Mathlib.Nat.{one-mul, mod-one, add_assoc, zero-lt-suc}
use native.Mathlib.Omega.{arith}
use lib.ListN.{get_or}
use Rattle.format.specs.Bits.{bit_in, number_of}
use Rattle.laws.specs.Bits.{gathered, gathered-bits, number_read, number-below, number-ext, bit-lt, bit-in}
use Rattle.laws.specs.Spans.{span_none, span-some}
use Rattle.stream.specs.Claims.{touched, AtMostFive, OneNumber, ShiftAndRemainder, OthersDoNotMatter, NumberTwo}

-- a number that has a bit touches the octets as far as its last
touched-some : (s w : ℕ) → 0 < w → touched s w ≡ (s + w + 7) / 8
touched-some s w h = span-some s w 1 (omega (arith, one-mul w)) ∙ ap (λ (n : ℕ). (s + n + 7) / 8) (one-mul w)

pub at-most-five : AtMostFive
at-most-five s zero hs hw = omega (arith, span_none s 0 1 refl)
at-most-five s (suc w) hs hw = omega (arith, touched-some s (suc w) (zero-lt-suc w))

pub one_number : OneNumber
one_number octets o at n h = rw (gathered-bits octets o at n) (number-below (bit-lt 8 octets) (at * 8) (n * 8) 64 (omega arith))

pub shift-and-remainder : ShiftAndRemainder
unfolding number_of
shift-and-remainder octets o at n s zero h = mod-one (gathered octets at n / 2 ^ (n * 8 - s - 0))
shift-and-remainder octets o at n s (suc w) h = number_read octets o at n s (suc w) (omega (arith, touched-some s (suc w) (zero-lt-suc w)))

-- bit j from the first bit of octet `at` on
bit-from : (octets : List ℕ) (at j : ℕ) → bit_in 8 octets (at * 8 + j) ≡ get_or octets (at + j / 8) 0 / 2 ^ (8 - suc (j % 8)) % 2
bit-from octets at j =
    let e : at * 8 + j ≡ (at + j / 8) * 8 + j % 8 = omega arith in
    rw e (bit-in 8 octets (at + j / 8) (j % 8) (omega arith))

pub others-do-not-matter : OthersDoNotMatter
others-do-not-matter octets others at there s w h = number-ext (bit_in 8 octets) (bit_in 8 others) (at * 8 + s) (there * 8 + s) w same
  where
    same : (i : ℕ) → i < w → bit_in 8 octets (at * 8 + s + i) ≡ bit_in 8 others (there * 8 + s + i)
    same i l =
        let octet : get_or octets (at + (s + i) / 8) 0 ≡ get_or others (there + (s + i) / 8) 0 = h ((s + i) / 8) (omega (arith, touched-some s w (omega arith))) in
        rw (add_assoc (at * 8) s i, add_assoc (there * 8) s i, bit-from octets at (s + i), bit-from others there (s + i), octet)

pub number-two : NumberTwo
number-two = (at-most-five, one_number, shift-and-remainder, others-do-not-matter)
