-- Document 01, "Bit fields". Here and on all pages x − y is 0 where y is above x, x / 0 is 0, and a list has 0 past its end
-- (`get_or .. 0`). Assumes nothing.
use Rattle.std.specs.Prelude.{ℕ, zero, suc, ◌+◌, ◌-◌, ◌*◌, ◌/◌, ◌%◌, ◌^◌, cond, List, [], ◌∷◌, ◌++◌, ltb, leb, eqb, length, get_or}
use Rattle.format.specs.Lists.{listed, any_of, ◌over◌}
use Rattle.format.specs.Refusals.{Row, ◌gives◌, first, Left, left}
use Rattle.format.specs.declared.Refusal.TheVariants.{Width, Short, Room, Numbers}
use Rattle.format.specs.declared.Refusal.{Refusal}
use Rattle.format.specs.declared.OctetPlace.{OctetPlace}
use Rattle.std.specs.declared.result.Result.{Result}
use Rattle.std.specs.declared.result.Result.TheVariants.{Ok, Err}

-- "Numbers of one width stand end to end, most significant bit first.": bit i of the numbers xs of width w
unfoldable pub bit_in : ℕ → List ℕ → ℕ → ℕ
bit_in w xs i = get_or xs (i / w) 0 / 2 ^ (w - suc (i % w)) % 2

-- bit i of the octets
abbrev pub bit_at : List ℕ → ℕ → ℕ
bit_at = bit_in 8

-- the number whose w bits are f p, f (p + 1), .., f (p + w - 1)
unfoldable pub number_of : (ℕ → ℕ) → ℕ → ℕ → ℕ
number_of f p zero = 0
number_of f p (suc w) = number_of f p w * 2 + f (p + w)

-- the number of width w at bit p of the octets
abbrev pub number_at : List ℕ → ℕ → ℕ → ℕ
number_at octets p w = number_of (bit_at octets) p w

-- the field of n numbers of width w from bit p of the octets on
abbrev pub field_of : List ℕ → ℕ → ℕ → ℕ → List ℕ
field_of octets p w n = listed n (λ k. number_at octets (p + k * w) w)

-- the numbers xs of width w as a string of bits
abbrev pub string_of : ℕ → List ℕ → List ℕ
string_of w xs = listed (length xs * w) (bit_in w xs)

-- bit i of a string of bits; past its end it is zero
abbrev pub bit : List ℕ → ℕ → ℕ
bit bits i = get_or bits i 0

-- the first n octets of a string of bits
abbrev pub octets_of : List ℕ → ℕ → List ℕ
octets_of bits n = listed n (λ j. number_of (bit bits) (j * 8) 8)

-- as many octets as hold n bits
abbrev pub rounded_up : ℕ → ℕ
rounded_up n = (n + 7) / 8

-- a string of bits that starts on an octet and is padded with zeros
abbrev pub padded : List ℕ → List ℕ
padded string = octets_of string (rounded_up (length string))

-- "A field of n numbers at width w from starting bit s spans (s + n·w) / 8 octets, rounded up (an empty list or width 0:
-- none)."
unfoldable pub span_of : ℕ → ℕ → ℕ → ℕ
span_of s w n = cond (eqb (n * w) 0) 0 (rounded_up (s + n * w))

-- "It keeps the bits before its start, sets its own bits, and sets the rest of its last octet to zero.": the bits once xs
-- are written from bit s on. Those after its own are `rest`: none, since a string of bits is zero past its end.
abbrev pub written_bits : List ℕ → List ℕ → ℕ → ℕ → List ℕ → List ℕ
written_bits rest lent s w xs = listed s (bit_at lent) ++ string_of w xs ++ rest

-- the octets of its span, over the lent ones
abbrev pub written : List ℕ → List ℕ → ℕ → ℕ → List ℕ → List ℕ
written rest lent s w xs = octets_of (written_bits rest lent s w xs) (span_of s w (length xs)) over lent

-- "Bit reader: 5, 7, 10."
-- "Reading takes widths 0 to 32 from a starting bit 0 to 7"
abbrev pub read_refusals : List ℕ → ℕ → ℕ → ℕ → List ℕ → List Row
read_refusals octets s w n lent =
    ltb 32 w gives Width
    ∷ ltb 7 s gives Width
    ∷ ltb (length octets) (span_of s w n) gives Short
    ∷ ltb (length lent) n gives Room
    ∷ []

-- n numbers of width w from bit s of the octets on, read into the lent numbers
unfoldable pub read_field : List ℕ → ℕ → ℕ → ℕ → List ℕ → Left (Result (Unit {0}) Refusal)
read_field octets s w n lent =
    first (λ r. left (Err r) lent) (read_refusals octets s w n lent)
    (left (Ok tt) (field_of octets s w n over lent))

-- "Bit writer: 5, 13, 10."
-- "Writing takes widths 1 to 32; each number must fit its width."
abbrev pub write_refusals : List ℕ → ℕ → ℕ → List ℕ → List Row
write_refusals xs s w lent =
    eqb w 0 gives Width
    ∷ ltb 32 w gives Width
    ∷ ltb 7 s gives Width
    ∷ any_of (leb (2 ^ w)) xs gives Numbers
    ∷ ltb (length lent) (span_of s w (length xs)) gives Room
    ∷ []

-- "It answers its span.": xs, written at width w from bit s of the lent octets on
unfoldable pub write_field : List ℕ → ℕ → ℕ → List ℕ → Left (Result OctetPlace Refusal)
write_field xs s w lent =
    first (λ r. left (Err r) lent) (write_refusals xs s w lent)
    (left (Ok (record { 0 = span_of s w (length xs) })) (written [] lent s w xs))
