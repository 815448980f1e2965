-- What document 02, No. 1, asks to be shown, to be read beside it. The proofs stand in proofs/Claims.antt. Assumes nothing.
use Rattle.std.specs.Prelude.{◌≡◌, List, ℕ, ◌*◌, ◌≤◌, ◌<◌, length, get_or, take}
use Rattle.format.specs.Lists.{◌over◌}
use Rattle.format.specs.Layout.{number_size, numbers_in, in_fours}
use Rattle.format.specs.Refusals.{left}
use Rattle.format.specs.Section5.{Covers, rows_of, section_size, field_count, table, fields_in, fields_of, head_of, named_of, read_section5, write_section5, named_by}
use Rattle.format.specs.declared.OctetPlace.{OctetPlace}
use Rattle.std.specs.declared.result.Result.TheVariants.{Ok}

-- "the table's rows are shown to cover each octet once, one statement for both templates": for template 3 the 22 rows and the
-- 49 octets of 5.3, for any other the 20 rows and the 47 octets of 5.2
abbrev pub EachOctetOnce : Type 0
EachOctetOnce = (template : ℕ) → Covers (rows_of template) (section_size template)

-- the template that numbers, one a row, name, and that octets name
abbrev pub template_of_numbers : List ℕ → ℕ
template_of_numbers numbers = (head_of (fields_of table numbers)).template

abbrev pub template_of_octets : List ℕ → ℕ
template_of_octets section5 = (head_of (fields_in table section5)).template

-- "Reading what was written gives back every field": whatever numbers writing accepted, reading the octets that it left gives
-- those of the template's rows, wherever there is room for them (13 has passed, so that four octets hold each)
abbrev pub FieldsBack : Type 0
FieldsBack =
    (numbers lent section5 fields : List ℕ) (span : OctetPlace)
    → left (Ok span) section5 ≡ write_section5 numbers lent
    → field_count (template_of_numbers numbers) * number_size ≤ length fields
    → left (Ok tt) (in_fours (take (field_count (template_of_numbers numbers)) numbers) over fields) ≡ read_section5 section5 fields

-- "and writing what was read gives back the octets": whatever octets reading accepted, writing the fields that it left, wherever
-- there is room, leaves the template's octets, and those past them as they were
abbrev pub OctetsBack : Type 0
OctetsBack =
    (section5 lent fields octets : List ℕ) → ((i : ℕ) → get_or section5 i 0 < 256)
    → left (Ok tt) fields ≡ read_section5 section5 lent
    → section_size (template_of_octets section5) ≤ length octets
    → left (Ok (record { 0 = section_size (template_of_octets section5) })) (take (section_size (template_of_octets section5)) section5 over octets)
    ≡ write_section5 (numbers_in fields) octets

-- "typing template numbers out of it breeds mistakes": the octets that were written name what the numbers name, so that unpacking
-- by them is unpacking with the numbers
abbrev pub NamedAlike : Type 0
NamedAlike =
    (numbers lent section5 : List ℕ) (span : OctetPlace) → left (Ok span) section5 ≡ write_section5 numbers lent
    → named_by section5 ≡ Ok (named_of (fields_of table numbers))

abbrev pub NumberOne : Type 0
NumberOne = EachOctetOnce × FieldsBack × OctetsBack × NamedAlike
