-- Each premise of the claims of document 02, No. 3, is needed: the smallest payloads that differ in it alone, and in the answer.
-- Where the first of the two is refused, or its group has width 0, no bits are asked of them. Assumes nothing.
use mathlib.Core.Path.{◌≡◌, refl}
use mathlib.Core.List.{List, [], ◌∷◌}
use Prim.Native.Nat.{ℕ}
use lib.ListN.{length}
use Rattle.format.specs.Lists.{listed, total, joined, any_of}
use Rattle.format.specs.Bits.{bit_in, number_of, span_of}
use Rattle.format.specs.Refusals.{first, answer_number}
use Rattle.format.specs.Seen.{refused, number, point, template, picking}
use Rattle.format.specs.Template.{widths_at, lengths_at, values_at}
use Rattle.format.specs.Unpacking.{codes_of, reference_of, said_by, group_width, group_length, points_before, bits_before, wrong_group, decoded, point_of, point_at, points_up_to, places_of, unpack52}
use Rattle.format.specs.Point.{point52}
use Rattle.format.specs.declared.Template.{Template}

-- room: 10 is unpacking's alone
room : (answer_number (unpack52 (template 0 0 1 0 0 0 0 1 0) 1 [] []).answer ≡ 10) × (picking 0 (template 0 0 1 0 0 0 0 1 0) 1 [] ≡ point (number 0))
unfolding listed reference_of total joined any_of first bit_in number_of span_of widths_at lengths_at values_at codes_of said_by group_width group_length points_before bits_before wrong_group decoded point_of point_at points_up_to places_of unpack52 point52
room = (refl, refl)

-- what of the group fields two payloads agree in
abbrev SameLength : List ℕ → List ℕ → Type 0
SameLength a b = length a ≡ length b

abbrev SameReferences : Template → List ℕ → List ℕ → Type 0
SameReferences t a b = (codes_of 0 t a).references ≡ (codes_of 0 t b).references

abbrev SameWidths : Template → List ℕ → List ℕ → Type 0
SameWidths t a b = (codes_of 0 t a).widths ≡ (codes_of 0 t b).widths

abbrev SameLengths : Template → List ℕ → List ℕ → Type 0
SameLengths t a b = (codes_of 0 t a).lengths ≡ (codes_of 0 t b).lengths

-- the payload's length: without its octet there is no reference, and a payload that is refused is asked for none
abbrev one_reference : Template
one_reference = template 0 8 1 0 0 0 0 1 0

octets : SameWidths one_reference [] (5 ∷ []) × SameLengths one_reference [] (5 ∷ [])
    × (picking 0 one_reference 1 [] ≡ refused 7 []) × (picking 0 one_reference 1 (5 ∷ []) ≡ point (number 5))
unfolding listed reference_of total joined any_of first bit_in number_of span_of widths_at lengths_at values_at codes_of said_by group_width group_length points_before bits_before wrong_group decoded point_of point_at points_up_to places_of point52
octets = (refl, refl, refl, refl)

-- the width codes: width 0, and width 1, for which a bit is lacking
abbrev one_width : Template
one_width = template 0 0 1 0 1 0 0 1 0

widths : SameLength (0x00 ∷ []) (0x80 ∷ []) × SameReferences one_width (0x00 ∷ []) (0x80 ∷ []) × SameLengths one_width (0x00 ∷ []) (0x80 ∷ [])
    × (picking 0 one_width 1 (0x00 ∷ []) ≡ point (number 0)) × (picking 0 one_width 1 (0x80 ∷ []) ≡ refused 7 [])
unfolding listed reference_of total joined any_of first bit_in number_of span_of widths_at lengths_at values_at codes_of said_by group_width group_length points_before bits_before wrong_group decoded point_of point_at points_up_to places_of point52
widths = (refl, refl, refl, refl, refl)

-- the length codes but the last: of three groups with references 0, 1 and 0 one has the point, the first or the second
abbrev one_length : Template
one_length = template 0 1 3 0 0 0 1 0 1

lengths : SameLength (0x40 ∷ 0x80 ∷ []) (0x40 ∷ 0x40 ∷ []) × SameReferences one_length (0x40 ∷ 0x80 ∷ []) (0x40 ∷ 0x40 ∷ [])
    × SameWidths one_length (0x40 ∷ 0x80 ∷ []) (0x40 ∷ 0x40 ∷ [])
    × (picking 0 one_length 1 (0x40 ∷ 0x80 ∷ []) ≡ point (number 0)) × (picking 0 one_length 1 (0x40 ∷ 0x40 ∷ []) ≡ point (number 1))
unfolding listed reference_of total joined any_of first bit_in number_of span_of widths_at lengths_at values_at codes_of said_by group_width group_length points_before bits_before wrong_group decoded point_of point_at points_up_to places_of point52
lengths = (refl, refl, refl, refl, refl)

-- the reference of the point's group, of width 0
abbrev one_bit : Template
one_bit = template 0 1 1 0 0 0 0 1 0

reference : SameLength (0x00 ∷ []) (0x80 ∷ []) × SameWidths one_bit (0x00 ∷ []) (0x80 ∷ []) × SameLengths one_bit (0x00 ∷ []) (0x80 ∷ [])
    × (picking 0 one_bit 1 (0x00 ∷ []) ≡ point (number 0)) × (picking 0 one_bit 1 (0x80 ∷ []) ≡ point (number 1))
unfolding listed reference_of total joined any_of first bit_in number_of span_of widths_at lengths_at values_at codes_of said_by group_width group_length points_before bits_before wrong_group decoded point_of point_at points_up_to places_of point52
reference = (refl, refl, refl, refl, refl)

-- the point's own bits
abbrev one_value : Template
one_value = template 0 0 1 1 0 0 0 1 0

bits : SameLength (0x00 ∷ []) (0x80 ∷ []) × SameReferences one_value (0x00 ∷ []) (0x80 ∷ []) × SameWidths one_value (0x00 ∷ []) (0x80 ∷ [])
    × SameLengths one_value (0x00 ∷ []) (0x80 ∷ [])
    × (picking 0 one_value 1 (0x00 ∷ []) ≡ point (number 0)) × (picking 0 one_value 1 (0x80 ∷ []) ≡ point (number 1))
unfolding listed reference_of total joined any_of first bit_in number_of span_of widths_at lengths_at values_at codes_of said_by group_width group_length points_before bits_before wrong_group decoded point_of point_at points_up_to places_of point52
bits = (refl, refl, refl, refl, refl, refl)

-- ---- what is none of them, and does not matter: of 5 6 5 7, whose first point is asked for, the other reference, the other values and
-- the pads; and a last length code

others : picking 0 (template 0 3 2 0 1 3 0 1 0) 4 (0xBC ∷ 0x80 ∷ 0x40 ∷ []) ≡ picking 0 (template 0 3 2 0 1 3 0 1 0) 4 (0xA3 ∷ 0xBF ∷ 0x3F ∷ [])
unfolding listed reference_of total joined any_of first bit_in number_of span_of widths_at lengths_at values_at codes_of said_by group_width group_length points_before bits_before wrong_group decoded point_of point_at points_up_to places_of point52
others = refl

last-length : picking 0 one_length 1 (0x40 ∷ 0x40 ∷ []) ≡ picking 0 one_length 1 (0x40 ∷ 0x60 ∷ [])
unfolding listed reference_of total joined any_of first bit_in number_of span_of widths_at lengths_at values_at codes_of said_by group_width group_length points_before bits_before wrong_group decoded point_of point_at points_up_to places_of point52
last-length = refl
