-- Document 01, "Unpacking under 5.2 and 5.3". Assumes nothing.
use Rattle.std.specs.Prelude.{ℕ, suc, ◌+◌, ◌-◌, ◌*◌, ◌^◌, Bool, ◌||◌, ◌&&◌, cond, eqb, ltb, length, get_or, pos}
use mathlib.Core.List.{List, [], ◌∷◌, ◌++◌, flat_map}
use Rattle.std.proofs.Math.Seq.{slice}
use Rattle.format.specs.Lists.{listed, total, joined, any_of, ◌over◌}
use Rattle.format.specs.Bits.{field_of, rounded_up}
use Rattle.format.specs.Layout.{point_size, point_octets}
use Rattle.format.specs.Refusals.{Row, ◌gives◌, first, count_refusals, room_refusals, Left, left}
use Rattle.format.specs.Template.{widths_at, lengths_at, values_at, kind_refusals, field_refusals}
use Rattle.format.specs.declared.Refusal.TheVariants.{Short, GroupSize}
use Rattle.format.specs.declared.Template.{Template}
use Rattle.format.specs.declared.Places.{Places}
use Rattle.format.specs.declared.Part.{Part}
use Rattle.format.specs.declared.Part.TheVariants.{References, Widths, Lengths, Values}
use Rattle.format.specs.declared.Located.{Located}
use Rattle.format.specs.declared.DecodedValue.{DecodedValue}
use Rattle.format.specs.declared.DecodedValue.TheVariants.{Normal, Missing1, Missing2}
use Rattle.format.specs.declared.Refusal.{Refusal}
use Rattle.std.specs.declared.result.Result.{Result}
use Rattle.std.specs.declared.result.Result.TheVariants.{Ok, Err}

-- ---- groups

-- what the group fields hold: group references, width codes, and all length codes but the last
pub record Codes : Type 0 where
  pub references : List ℕ
  pub widths : List ℕ
  pub lengths : List ℕ

-- those of a payload whose references begin at octet `start`
unfoldable pub codes_of : ℕ → Template → List ℕ → Codes
codes_of start t payload = record {
  references = field_of payload (start * 8) t.width t.groups;
  widths = field_of payload (widths_at start t * 8) t.widths.bits t.groups;
  lengths = field_of payload (lengths_at start t * 8) t.lengths.bits (t.groups - 1);
}

-- the reference of group g
unfoldable pub reference_of : Codes → ℕ → ℕ
reference_of codes g = get_or codes.references g 0

module _ (t : Template) (codes : Codes) where
  -- "Width = width code + width reference."
  unfoldable pub group_width : ℕ → ℕ
  group_width g = get_or codes.widths g 0 + t.widths.reference

  -- "Length = length code × increment + length reference, except that the last group's length is the template's own number
  -- and its length code is ignored."
  unfoldable pub group_length : ℕ → ℕ
  group_length g =
      cond (eqb (suc g) t.groups) t.lengths.last
      (get_or codes.lengths g 0 * t.lengths.increment + t.lengths.reference)

  -- the points of the first g groups, and the bits of their values
  unfoldable pub points_before : ℕ → ℕ
  points_before g = total g group_length

  unfoldable pub bits_before : ℕ → ℕ
  bits_before g = total g (λ k. group_length k * group_width k)

  -- "a group width above 31, or a length other than the last above 4,294,967,295"
  unfoldable pub wrong_group : ℕ → Bool
  wrong_group g = ltb 31 (group_width g) || (ltb (suc g) t.groups && ltb 4294967295 (group_length g))

-- ---- all that a payload says

-- its group fields, and its values: "Values follow group after group with no alignment between them.", a list a group
pub record Said : Type 0 where
  pub codes : Codes
  pub values : List (List ℕ)

-- Points, and refusals but for a payload that is too short, are made of this alone: what is not said here, pads and the last
-- length code, cannot matter to them.
unfoldable pub said_by : ℕ → Template → List ℕ → Said
said_by start t payload =
    let codes = codes_of start t payload in
    record {
      codes = codes;
      values =
          listed t.groups
          (λ g. field_of payload (values_at start t * 8 + bits_before t codes g) (group_width t codes g) (group_length t codes g));
    }

-- ---- points

module _ (t : Template) where
  -- "Let m be missing management. In a group of width w > 0, value 2^w − 1 is missing 1 if m > 0"
  abbrev pub is_missing1 : ℕ → ℕ → Bool
  is_missing1 w value = ltb 0 t.management && eqb value (2 ^ w - 1)

  -- "else 2^w − 2 is missing 2 if m = 2"; at width 0 both codes are 0, and the first test comes first
  abbrev pub is_missing2 : ℕ → ℕ → Bool
  is_missing2 w value = eqb t.management 2 && eqb value (2 ^ w - 2)

  -- "else the number is value + reference."
  unfoldable pub decoded : ℕ → ℕ → ℕ → DecodedValue
  decoded w value number = cond (is_missing1 w value) Missing1 (cond (is_missing2 w value) Missing2 (Normal (pos number)))

  -- "In a group of width 0 the same tests apply to the reference at the number width, and the number is the reference."
  unfoldable pub point_of : ℕ → ℕ → ℕ → DecodedValue
  point_of w reference value =
      cond (eqb w 0) (decoded t.width reference reference) (decoded w value (value + reference))

  module _ (said : Said) where
    -- point k of group g
    unfoldable pub point_at : ℕ → ℕ → DecodedValue
    point_at g k =
        point_of (group_width t said.codes g) (reference_of said.codes g) (get_or (get_or said.values g []) k 0)

    -- the points of the first n groups
    unfoldable pub points_up_to : ℕ → List DecodedValue
    points_up_to n = joined n (λ g. listed (group_length t said.codes g) (point_at g))

-- ---- parts

-- "The last four can be asked for as parts of the caller's payload; the values part ends with the last value's octet": where
-- they are when the values take so many bits
unfoldable pub places_of : ℕ → Template → ℕ → Places
places_of start t bits = record {
  references = record { 0 = start };
  widths = record { 0 = widths_at start t };
  lengths = record { 0 = lengths_at start t };
  values = record { 0 = values_at start t };
  end = record { 0 = values_at start t + rounded_up bits };
}

abbrev pub part_of : Part → List ℕ → Result Located Refusal → List ℕ
part_of References payload (Ok l) = slice l.places.references.0 l.places.widths.0 payload
part_of Widths payload (Ok l) = slice l.places.widths.0 l.places.lengths.0 payload
part_of Lengths payload (Ok l) = slice l.places.lengths.0 l.places.values.0 payload
part_of Values payload (Ok l) = slice l.places.values.0 l.places.end.0 payload
part_of part payload (Err r) = []

-- "7 for the group fields", in a payload of so many octets
abbrev pub fields_short : ℕ → Template → ℕ → List Row
fields_short start t octets =
    ltb octets (values_at start t) gives Short
    ∷ []

-- "8, 7 for the values"
abbrev pub group_refusals : ℕ → Template → ℕ → Codes → List Row
group_refusals start t octets codes =
    any_of (wrong_group t codes) (listed t.groups (λ g. g)) gives GroupSize
    ∷ ltb octets (places_of start t (bits_before t codes t.groups)).end.0 gives Short
    ∷ []

-- from 6 on, as far as 7 for the values
abbrev pub located_refusals : ℕ → Template → ℕ → Codes → List Row
located_refusals start t octets codes = field_refusals t ++ fields_short start t octets ++ group_refusals start t octets codes

-- and as far as 9
abbrev pub counted_refusals : ℕ → Template → ℕ → ℕ → Codes → List Row
counted_refusals start t declared octets codes =
    located_refusals start t octets codes ++ count_refusals (points_before t codes t.groups) declared

-- where the parts are, unless one of the rows refuses
abbrev pub located_by : List Row → ℕ → Template → Codes → Result Located Refusal
located_by rows start t codes =
    first Err rows
    (Ok (record { places = places_of start t (bits_before t codes t.groups); points = points_before t codes t.groups }))

-- ---- template 5.2

-- "The refusals are unpacking's as far as 7 for the values."
unfoldable pub locate52 : Template → List ℕ → Result Located Refusal
locate52 t payload =
    let codes = codes_of 0 t payload in
    located_by (kind_refusals t ++ located_refusals 0 t (length payload) codes) 0 t codes

-- "Order for 5.2: 1, 2, 6, 5, 7 for the group fields, 8, 7 for the values, 9"
abbrev pub counted52 : Template → ℕ → ℕ → Codes → List Row
counted52 t declared octets codes = kind_refusals t ++ counted_refusals 0 t declared octets codes

-- the whole order, with "10." at its end
abbrev pub refusals52 : Template → ℕ → ℕ → Codes → List ℕ → List Row
refusals52 t declared octets codes lent = counted52 t declared octets codes ++ room_refusals point_size lent declared

unfoldable pub unpack52 : Template → ℕ → List ℕ → List ℕ → Left (Result ℕ Refusal)
unpack52 t declared payload lent =
    let said = said_by 0 t payload in
    first (λ r. left (Err r) lent) (refusals52 t declared (length payload) said.codes lent)
    (left (Ok declared) (flat_map point_octets (points_up_to t said t.groups) over lent))
