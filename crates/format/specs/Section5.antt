-- Document 02, No. 1, "Section 5 from its own octets". Octets are counted from 1, as they are there. Assumes nothing.
use Rattle.std.specs.Prelude.{ℕ, ◌+◌, ◌-◌, ◌*◌, ◌^◌, ◌≤◌, ◌<◌, ◌≡◌, Bool, not, cond, ◌||◌, ◌&&◌, List, [], ◌∷◌, ◌++◌, map, eqb, ltb, leb, length, get_or, take}
use Rattle.std.proofs.lemmas.List.Edits.{sets}
use Rattle.format.specs.Lists.{listed, any_of, ◌over◌}
use Rattle.format.specs.Bits.{number_at}
use Rattle.format.specs.Layout.{big_endian, number_size, in_fours}
use Rattle.format.specs.Refusals.{Row as Test, ◌gives◌, first, room_refusals, Left, left}
use Rattle.format.specs.Template.{template_by}
use Rattle.format.specs.Unpacking.{unpack52}
use Rattle.format.specs.Differences.{unpack53}
use Rattle.format.specs.declared.Refusal.TheVariants.{Room, Numbers, Section5}
use Rattle.format.specs.declared.Row.{Row}
use Rattle.format.specs.declared.Head.{Head}
use Rattle.format.specs.declared.Template.{Template}
use Rattle.format.specs.declared.Differencing.{Differencing}
use Rattle.format.specs.declared.Named.{Named}
use Rattle.format.specs.declared.Named.TheVariants as named
use Rattle.format.specs.declared.Refusal.{Refusal}
use Rattle.format.specs.declared.OctetPlace.{OctetPlace}
use Rattle.std.specs.declared.result.Result.{Result}
use Rattle.std.specs.declared.result.Result.TheVariants.{Ok, Err}

-- ---- the table

abbrev pub row : ℕ → ℕ → Row
row first size = record { first = first; size = size }

-- "both from one table: one row a field with its first octet and size."
unfoldable pub table : List Row
table =
    -- "Octets 1 to 4 are the section length, 5 is the section number 5, 6 to 9 the declared points, 10 and 11 the template."
    row 1 4 ∷ row 5 1 ∷ row 6 4 ∷ row 10 2
    -- "Then come reference value (12 to 15), binary and decimal scale (16, 18; two octets each), number width (20), original
    -- field type (21), splitting method (22), missing management (23),
    ∷ row 12 4 ∷ row 16 2 ∷ row 18 2 ∷ row 20 1 ∷ row 21 1 ∷ row 22 1 ∷ row 23 1
    -- missing values (24, 28; four each), groups (32; four), width reference (36), width bits (37),
    ∷ row 24 4 ∷ row 28 4 ∷ row 32 4 ∷ row 36 1 ∷ row 37 1
    -- length reference (38; four), increment (42), last length (43; four), length bits (47);
    ∷ row 38 4 ∷ row 42 1 ∷ row 43 4 ∷ row 47 1
    -- in 5.3 also order (48) and descriptor octets (49)."
    ∷ row 48 1 ∷ row 49 1 ∷ []

-- "templates 5.2 (47 octets) and 5.3 (49)", whose numbers in octets 10 and 11 are 2 and 3: the octets that a template has, and
-- its rows, of which 5.3 "also" has the last two. A number that is neither has those of 5.2, and is refused
unfoldable pub section_size : ℕ → ℕ
section_size template = cond (eqb template 3) 49 47

unfoldable pub field_count : ℕ → ℕ
field_count template = cond (eqb template 3) 22 20

abbrev pub rows_of : ℕ → List Row
rows_of template = take (field_count template) table

-- how many rows hold an octet
abbrev pub holds : Row → ℕ → Bool
holds r octet = leb r.first octet && ltb octet (r.first + r.size)

unfoldable pub holders : List Row → ℕ → ℕ
holders [] octet = 0
holders (r ∷ rows) octet = cond (holds r octet) 1 0 + holders rows octet

-- "the table's rows are shown to cover each octet once": the octets 1 to n, and no other
pub record Covers (rows : List Row) (n : ℕ) : Type 0 where
  pub once : (octet : ℕ) → 1 ≤ octet → octet ≤ n → holders rows octet ≡ 1
  pub before : holders rows 0 ≡ 0
  pub beyond : (octet : ℕ) → n < octet → holders rows octet ≡ 0

-- ---- fields

-- a field: its row, and its number
pub record Field : Type 0 where
  pub row : Row
  pub number : ℕ

abbrev pub field : Row → ℕ → Field
field row number = record { row = row; number = number }

abbrev pub numbers_of : List Field → List ℕ
numbers_of fields = map (λ f. f.number) fields

-- the field in a row's octets. "Reference, scales and field type are carried through as bits.": like all others
abbrev pub field_in : List ℕ → Row → Field
field_in octets row = field row (number_at octets ((row.first - 1) * 8) (row.size * 8))

-- "Read": the fields that octets hold
abbrev pub fields_in : List Row → List ℕ → List Field
fields_in rows octets = map (field_in octets) rows

-- the fields of numbers, one a row; 0 where numbers are lacking
abbrev pub fields_of : List Row → List ℕ → List Field
fields_of rows numbers = listed (length rows) (λ k. field (get_or rows k (row 0 0)) (get_or numbers k 0))

-- "and write": octets with each field in its row's octets. `sets octets i xs` has xs in the places from i on, counted from 0
unfoldable pub laid : List Field → List ℕ → List ℕ
laid [] octets = octets
laid (f ∷ fields) octets = laid fields (sets octets (f.row.first - 1) (big_endian f.row.size f.number))

-- the number of the field that begins at an octet
unfoldable pub at : List Field → ℕ → ℕ
at [] octet = 0
at (f ∷ fields) octet = cond (eqb f.row.first octet) f.number (at fields octet)

module _ (fields : List Field) where
  abbrev pub head_of : Head
  head_of = record { length = at fields 1; number = at fields 5; template = at fields 10 }

  abbrev pub declared_of : ℕ
  declared_of = at fields 6

  -- "number width (20) [..] splitting method (22), missing management (23) [..] groups (32; four), width reference (36), width
  -- bits (37), length reference (38; four), increment (42), last length (43; four), length bits (47)"
  abbrev pub template_of : Template
  template_of =
      template_by (at fields 20) (at fields 22) (at fields 23) (at fields 32) (at fields 36) (at fields 37) (at fields 38)
      (at fields 42) (at fields 43) (at fields 47)

  -- "order (48) and descriptor octets (49)"
  abbrev pub differencing_of : Differencing
  differencing_of = record { order = at fields 48; octets = at fields 49 }

  -- what they name, for unpacking
  abbrev pub named_of : Named
  named_of = cond (eqb head_of.template 3) (named.Spatial declared_of template_of differencing_of) (named.Complex declared_of template_of)

-- ---- refusals

-- "fewer octets are lent than the template has, the length is not the template's, the section number is not 5, or the template
-- is neither". Of fewer than eleven octets the template is unknown: whichever it is, they are fewer.
unfoldable pub wrong_head : ℕ → ℕ → Head → Bool
wrong_head lent asked head =
    ltb lent asked || not (eqb head.length (section_size head.template)) || not (eqb head.number 5)
    || (not (eqb head.template 2) && not (eqb head.template 3))

-- 14: "it comes before all others"
abbrev pub head_refusals : ℕ → ℕ → Head → List Test
head_refusals lent asked head =
    wrong_head lent asked head gives Section5
    ∷ []

-- 13 in writing, an addition (docs/DECISIONS.md, 112): a number that its row's octets do not hold; then 10: "A lent output that
-- is too small"
abbrev pub too_large : Field → Bool
too_large f = leb (256 ^ f.row.size) f.number

abbrev pub field_refusals : List Field → ℕ → List ℕ → List Test
field_refusals fields size lent =
    any_of too_large fields gives Numbers
    ∷ ltb (length lent) size gives Room
    ∷ []

-- ---- reading, writing, unpacking

-- The fields go to lent octets, four a number (112). "A lent output that is too small is 10."
unfoldable pub read_section5 : List ℕ → List ℕ → Left (Result (Unit {0}) Refusal)
read_section5 section5 lent =
    let head = head_of (fields_in table section5) in
    first (λ r. left (Err r) lent)
    (head_refusals (length section5) (section_size head.template) head
    ++ room_refusals number_size lent (field_count head.template))
    (left (Ok tt) (in_fours (numbers_of (fields_in (rows_of head.template) section5)) over lent))

-- The fields are numbers, one a row; fewer than the template has rows are 14 too (112). It answers the octets written.
unfoldable pub write_section5 : List ℕ → List ℕ → Left (Result OctetPlace Refusal)
write_section5 numbers lent =
    let head = head_of (fields_of table numbers) in
    let fields = fields_of (rows_of head.template) numbers in
    let size = section_size head.template in
    first (λ r. left (Err r) lent)
    (head_refusals (length numbers) (field_count head.template) head ++ field_refusals fields size lent)
    (left (Ok (record { 0 = size })) (laid fields lent))

-- "typing template numbers out of it breeds mistakes": what Section 5 names, and unpacking by it, an addition (118)
unfoldable pub named_by : List ℕ → Result Named Refusal
named_by section5 =
    let fields = fields_in table section5 in
    let head = head_of fields in
    first Err (head_refusals (length section5) (section_size head.template) head) (Ok (named_of fields))

abbrev pub unpack_named : Result Named Refusal → List ℕ → List ℕ → Left (Result ℕ Refusal)
unpack_named (Ok (named.Complex declared t)) payload lent = unpack52 t declared payload lent
unpack_named (Ok (named.Spatial declared t d)) payload lent = unpack53 t d declared payload lent
unpack_named (Err r) payload lent = left (Err r) lent

abbrev pub unpack_section5 : List ℕ → List ℕ → List ℕ → Left (Result ℕ Refusal)
unpack_section5 section5 payload lent = unpack_named (named_by section5) payload lent
