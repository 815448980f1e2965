-- Each premise of the claims of document 02, No. 2, is needed: the smallest numbers without it. Assumes nothing.
use mathlib.Core.Path.{◌≡◌, refl}
use mathlib.Core.List.{List, [], ◌∷◌}
use Prim.Native.Nat.{ℕ, ◌-◌, ◌*◌, ◌/◌, ◌%◌, ◌^◌}
use Rattle.format.specs.Bits.{bit_in, number_of, number_at, span_of}
use Rattle.laws.specs.Bits.{gathered}
use Rattle.stream.specs.Claims.{touched}

-- five octets are touched, so that four are too few; from bit 9 on, and by 34 bits, six are
five-touched : touched 1 32 ≡ 5
unfolding span_of
five-touched = refl

past-the-octet : touched 9 32 ≡ 6
unfolding span_of
past-the-octet = refl

past-32-bits : touched 7 34 ≡ 6
unfolding span_of
past-32-bits = refl

-- nine octets may pass 64 bits
nine-octets : gathered (1 ∷ []) 0 9 ≡ 2 ^ 64
unfolding gathered
nine-octets = refl

-- eight bits from bit 1 on touch two octets. Of 0 and 128 they are 1; gathered of the first alone they would be 0, and with
-- another second octet they are another number
abbrev two : List ℕ
two = 0 ∷ 128 ∷ []

both-touched : (touched 1 8 ≡ 2) × (number_at two 1 8 ≡ 1) × (gathered two 0 1 / 2 ^ (1 * 8 - 1 - 8) % 2 ^ 8 ≡ 0) × (number_at (0 ∷ 0 ∷ []) 1 8 ≡ 0)
unfolding span_of gathered number_of bit_in
both-touched = (refl, refl, refl, refl)

-- an octet of 256 counts in what is gathered, and not among the bits
above-255 : (gathered (0 ∷ 256 ∷ []) 0 2 / 2 ^ (2 * 8 - 0 - 16) % 2 ^ 16 ≡ 256) × (number_at (0 ∷ 256 ∷ []) 0 16 ≡ 0)
unfolding gathered number_of bit_in
above-255 = (refl, refl)
