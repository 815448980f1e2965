-- Document 01, "Cases", and cases of document 02's requests: one list with one claim. Assumes nothing.
use Rattle.std.specs.Prelude.{ℕ, ◌+◌, ◌≡◌, refl}
use mathlib.Core.List.{List, [], ◌∷◌, flat_map}
use Rattle.format.specs.Seen.{Case, ◌shows◌, AllHold, lent, refused, numbers, spanned, number, points, point, levels, group, packs, reading, template, unpacking, restoring, reading_section5, writing_section5, unpacking_section5, picking, picking_section5, unrolling, writing_levels, packing}
use Rattle.format.specs.Lists.{listed, total, joined, any_of, first_where, greatest, least}
use Rattle.format.specs.Refusals.{first}
use Rattle.format.specs.Bits.{bit_in, number_of, span_of, read_field, write_field}
use Rattle.format.specs.Template.{widths_at, lengths_at, values_at}
use Rattle.format.specs.Unpacking.{codes_of, reference_of, said_by, group_width, group_length, points_before, bits_before, wrong_group, decoded, point_of, point_at, points_up_to, places_of, unpack52}
use Rattle.format.specs.Differences.{descriptors_of, raised, expected, restored, beyond, points53, left53, unpack53}
use Rattle.format.specs.RunLength.{levels_of, levels_up_to, only_padding, codes_read, repeats_first, run_length_up_to}
use Rattle.format.specs.Grouping.{digits_in, bits, width_of, ends_before, groups_from, groups_of, records_from}
use Rattle.format.specs.Packing.{summary_size, width_coding, gcd_in, gcd, gcd_from, divisor_up_to, increment_of, but_last, length_coding, template_of, length_codes, value_string, payload_of, packing_of, pack_by}
use Rattle.format.specs.Section5.{table, section_size, field_count, laid, at, wrong_head, read_section5, write_section5, named_by}
use Rattle.format.specs.Point.{point52}
use Rattle.format.specs.WritingRunLength.{runs_from, runs_of, digits_up_to, digits_of, run_codes, level_codes, write_run_length}
use Rattle.format.specs.Layout.{group_size, in_fours}
use Rattle.format.specs.Template.{template_by}
use Rattle.format.specs.declared.DecodedValue.TheVariants.{Missing1, Missing2}
use Rattle.format.specs.declared.Named.TheVariants as named
use Rattle.std.specs.declared.result.Result.TheVariants.{Ok}

-- The maps of two of these with their Section 5, octet by octet, and its fields: under 5.2 BC 80 40 with management 1, under 5.3
-- 0A 82 0C 50. Reference value 10.0, scales −1 and 2, field type 1.
abbrev pub octets52 : List ℕ
octets52 =
    0 ∷ 0 ∷ 0 ∷ 47 ∷ 5 ∷ 0 ∷ 0 ∷ 0 ∷ 4 ∷ 0 ∷ 2 ∷ 0x41 ∷ 0x20 ∷ 0 ∷ 0 ∷ 0x80 ∷ 0x01 ∷ 0 ∷ 2 ∷ 3 ∷ 1 ∷ 1 ∷ 1 ∷ 0xFF ∷ 0xFF ∷ 0xFF ∷ 0xFF
    ∷ 0xFF ∷ 0xFF ∷ 0xFF ∷ 0xFF ∷ 0 ∷ 0 ∷ 0 ∷ 2 ∷ 0 ∷ 1 ∷ 0 ∷ 0 ∷ 0 ∷ 3 ∷ 0 ∷ 0 ∷ 0 ∷ 0 ∷ 1 ∷ 0 ∷ []

abbrev pub fields52 : List ℕ
fields52 = 47 ∷ 5 ∷ 4 ∷ 2 ∷ 0x41200000 ∷ 0x8001 ∷ 2 ∷ 3 ∷ 1 ∷ 1 ∷ 1 ∷ 0xFFFFFFFF ∷ 0xFFFFFFFF ∷ 2 ∷ 0 ∷ 1 ∷ 3 ∷ 0 ∷ 1 ∷ 0 ∷ []

abbrev pub octets53 : List ℕ
octets53 =
    0 ∷ 0 ∷ 0 ∷ 49 ∷ 5 ∷ 0 ∷ 0 ∷ 0 ∷ 4 ∷ 0 ∷ 3 ∷ 0x41 ∷ 0x20 ∷ 0 ∷ 0 ∷ 0x80 ∷ 0x01 ∷ 0 ∷ 2 ∷ 0 ∷ 1 ∷ 1 ∷ 0 ∷ 0xFF ∷ 0xFF ∷ 0xFF ∷ 0xFF
    ∷ 0xFF ∷ 0xFF ∷ 0xFF ∷ 0xFF ∷ 0 ∷ 0 ∷ 0 ∷ 1 ∷ 3 ∷ 0 ∷ 0 ∷ 0 ∷ 0 ∷ 0 ∷ 0 ∷ 0 ∷ 0 ∷ 0 ∷ 4 ∷ 0 ∷ 1 ∷ 1 ∷ []

abbrev pub fields53 : List ℕ
fields53 = 49 ∷ 5 ∷ 4 ∷ 3 ∷ 0x41200000 ∷ 0x8001 ∷ 2 ∷ 0 ∷ 1 ∷ 1 ∷ 0 ∷ 0xFFFFFFFF ∷ 0xFFFFFFFF ∷ 1 ∷ 3 ∷ 0 ∷ 0 ∷ 0 ∷ 4 ∷ 0 ∷ 1 ∷ 1 ∷ []

-- a Section 5 whose octets each hold their own place, but for length and template: what is read of it shows the table
abbrev pub places53 : List ℕ
places53 = 0 ∷ 0 ∷ 0 ∷ 49 ∷ 5 ∷ 6 ∷ 7 ∷ 8 ∷ 9 ∷ 0 ∷ 3 ∷ listed 38 (λ i. 12 + i)

abbrev pub fields_of_places53 : List ℕ
fields_of_places53 =
    49 ∷ 5 ∷ 0x06070809 ∷ 3 ∷ 0x0C0D0E0F ∷ 0x1011 ∷ 0x1213 ∷ 20 ∷ 21 ∷ 22 ∷ 23 ∷ 0x18191A1B ∷ 0x1C1D1E1F ∷ 0x20212223 ∷ 36 ∷ 37
    ∷ 0x26272829 ∷ 42 ∷ 0x2B2C2D2E ∷ 47 ∷ 48 ∷ 49 ∷ []

abbrev pub cases : List Case
cases =
    -- those marked P
    reading (0xBA ∷ 0xF0 ∷ []) 0 3 4 shows numbers (5 ∷ 6 ∷ 5 ∷ 7 ∷ [])
    ∷ reading (0xBA ∷ 0xF0 ∷ []) 2 5 2 shows numbers (29 ∷ 15 ∷ [])
    ∷ packing 2 (0 ∷ 0 ∷ 0 ∷ 0 ∷ 8 ∷ 8 ∷ 8 ∷ []) 2 1
    shows packs (4 ∷ 2 ∷ 0 ∷ 0 ∷ 4 ∷ 0 ∷ 3 ∷ 0 ∷ []) (0x08 ∷ []) (group 0 4 0 0 ∷ group 4 3 8 0 ∷ [])
    ∷ packing 1 (5 ∷ 6 ∷ 5 ∷ 7 ∷ []) 4 2
    shows packs (3 ∷ 4 ∷ 0 ∷ 0 ∷ 1 ∷ 0 ∷ 1 ∷ 0 ∷ []) (0xBA ∷ 0xF0 ∷ []) (group 0 1 5 0 ∷ group 1 1 6 0 ∷ group 2 1 5 0 ∷ group 3 1 7 0 ∷ [])
    ∷ packing 4 (5 ∷ 6 ∷ 5 ∷ 7 ∷ []) 2 3
    shows packs (3 ∷ 2 ∷ 0 ∷ 1 ∷ 3 ∷ 0 ∷ 1 ∷ 0 ∷ []) (0xBC ∷ 0x80 ∷ 0x40 ∷ []) (group 0 3 5 1 ∷ group 3 1 7 0 ∷ [])
    ∷ unpacking (template 1 3 2 0 1 3 0 1 0) 4 (0xBC ∷ 0x80 ∷ 0x40 ∷ [])
    shows points (number 5 ∷ Missing1 ∷ number 5 ∷ Missing1 ∷ [])
    ∷ unpacking (template 2 3 2 0 1 3 0 1 0) 4 (0xBC ∷ 0x80 ∷ 0x40 ∷ [])
    shows points (Missing2 ∷ Missing1 ∷ Missing2 ∷ Missing1 ∷ [])
    ∷ unpacking (template 0 0 1 0 0 0 0 3 0) 3 [] shows points (number 0 ∷ number 0 ∷ number 0 ∷ [])
    ∷ unpacking (template 1 0 1 0 0 0 0 3 0) 3 [] shows points (Missing1 ∷ Missing1 ∷ Missing1 ∷ [])
    ∷ restoring 1 1 (template 0 0 1 3 0 0 0 4 0) 4 (0x0A ∷ 0x82 ∷ 0x0C ∷ 0x50 ∷ [])
    shows points (number 10 ∷ number 11 ∷ number 9 ∷ number 12 ∷ [])
    ∷ restoring 2 1 (template 0 0 1 2 0 0 0 4 0) 4 (0x0A ∷ 0x0C ∷ 0x81 ∷ 0x09 ∷ [])
    shows points (number 10 ∷ number 12 ∷ number 15 ∷ number 18 ∷ [])
    ∷ unrolling 4 9 10 (0x3C ∷ 0xB5 ∷ []) shows levels (3 ∷ 3 ∷ 3 ∷ 3 ∷ 3 ∷ 3 ∷ 3 ∷ 3 ∷ 3 ∷ 5 ∷ [])
    ∷ unrolling 4 9 9 (0x3C ∷ 0xB5 ∷ []) shows refused 9 (lent 18 ∷ [])
    -- the others, but for the list of 325 numbers, whose length coding stands below, and 3C 50, which is document 02's
    ∷ unpacking (template 0 31 1 1 0 0 0 1 0) 1 (0xFF ∷ 0xFF ∷ 0xFF ∷ 0xFE ∷ 0x80 ∷ []) shows points (number 2147483648 ∷ [])
    ∷ unpacking (template 0 32 1 1 0 0 0 1 0) 1 (0xFF ∷ 0xFF ∷ 0xFF ∷ 0xFE ∷ 0x80 ∷ []) shows refused 5 (lent 9 ∷ [])
    ∷ unpacking (template 0 0 1 31 0 0 0 1 0) 1 (0xFF ∷ 0xFF ∷ 0xFF ∷ 0xFE ∷ []) shows points (number 2147483647 ∷ [])
    ∷ unpacking (template 0 0 1 32 0 0 0 1 0) 1 (0xFF ∷ 0xFF ∷ 0xFF ∷ 0xFE ∷ []) shows refused 8 (lent 9 ∷ [])
    ∷ unpacking (template 0 0 1 0 0 0 0 1 32) 1 (0 ∷ 0 ∷ 0 ∷ 0 ∷ []) shows points (number 0 ∷ [])
    ∷ unpacking (template 0 0 1 0 0 0 0 1 33) 1 (0 ∷ 0 ∷ 0 ∷ 0 ∷ 0 ∷ []) shows refused 5 (lent 9 ∷ [])
    ∷ packing 1 (2147483647 ∷ []) 1 4
    shows packs (31 ∷ 1 ∷ 0 ∷ 0 ∷ 0 ∷ 0 ∷ 1 ∷ 0 ∷ []) (0xFF ∷ 0xFF ∷ 0xFF ∷ 0xFE ∷ []) (group 0 1 2147483647 0 ∷ [])
    ∷ packing 1 (2147483648 ∷ []) 1 4 shows refused 13 (lent group_size ∷ lent 4 ∷ lent summary_size ∷ [])
    ∷ packing 0 (1 ∷ []) 1 4 shows refused 13 (lent group_size ∷ lent 4 ∷ lent summary_size ∷ [])
    -- document 02, No. 1
    ∷ reading_section5 octets52 80 shows numbers (in_fours fields52)
    ∷ reading_section5 octets53 88 shows numbers (in_fours fields53)
    ∷ writing_section5 fields52 47 shows spanned 47 octets52
    ∷ writing_section5 fields53 49 shows spanned 49 octets53
    ∷ reading_section5 places53 88 shows numbers (in_fours fields_of_places53)
    ∷ writing_section5 fields_of_places53 49 shows spanned 49 places53
    ∷ unpacking_section5 octets52 (0xBC ∷ 0x80 ∷ 0x40 ∷ []) 36 shows points (number 5 ∷ Missing1 ∷ number 5 ∷ Missing1 ∷ [])
    ∷ unpacking_section5 octets53 (0x0A ∷ 0x82 ∷ 0x0C ∷ 0x50 ∷ []) 36
    shows points (number 10 ∷ number 11 ∷ number 9 ∷ number 12 ∷ [])
    -- document 02, No. 3: of 5 6 5 7, and with management 1 by its Section 5
    ∷ picking 1 (template 0 3 2 0 1 3 0 1 0) 4 (0xBC ∷ 0x80 ∷ 0x40 ∷ []) shows point (number 6)
    ∷ picking 3 (template 0 3 2 0 1 3 0 1 0) 4 (0xBC ∷ 0x80 ∷ 0x40 ∷ []) shows point (number 7)
    ∷ picking 4 (template 0 3 2 0 1 3 0 1 0) 4 (0xBC ∷ 0x80 ∷ 0x40 ∷ []) shows refused 15 []
    ∷ picking_section5 2 octets52 (0xBC ∷ 0x80 ∷ 0x40 ∷ []) shows point (number 5)
    ∷ picking_section5 3 octets52 (0xBC ∷ 0x80 ∷ 0x40 ∷ []) shows point Missing1
    -- document 02, No. 4, which amends document 01's case of 3C 50: "with 4 declared is now accepted as 3 3 3 5; with 5 it still
    -- gives 3 3 3 5 0"
    ∷ unrolling 4 9 4 (0x3C ∷ 0x50 ∷ []) shows levels (3 ∷ 3 ∷ 3 ∷ 5 ∷ [])
    ∷ unrolling 4 9 5 (0x3C ∷ 0x50 ∷ []) shows levels (3 ∷ 3 ∷ 3 ∷ 5 ∷ 0 ∷ [])
    -- document 02, No. 5: the levels of 3C B5 and of 3C 50, written
    ∷ writing_levels 4 9 (3 ∷ 3 ∷ 3 ∷ 3 ∷ 3 ∷ 3 ∷ 3 ∷ 3 ∷ 3 ∷ 5 ∷ []) 2 shows spanned 2 (0x3C ∷ 0xB5 ∷ [])
    ∷ writing_levels 4 9 (3 ∷ 3 ∷ 3 ∷ 5 ∷ []) 2 shows spanned 2 (0x3C ∷ 0x50 ∷ [])
    ∷ []

pub all_hold : AllHold cases
unfolding listed reference_of total joined any_of first_where greatest least flat_map first bit_in number_of span_of read_field write_field widths_at lengths_at values_at codes_of said_by group_width group_length points_before bits_before wrong_group decoded point_of point_at points_up_to places_of unpack52 descriptors_of raised expected restored beyond points53 left53 unpack53 levels_of levels_up_to only_padding codes_read repeats_first run_length_up_to digits_in bits width_of ends_before groups_from groups_of records_from width_coding gcd_in gcd gcd_from divisor_up_to increment_of but_last length_coding template_of length_codes value_string payload_of packing_of pack_by table section_size field_count laid at wrong_head read_section5 write_section5 named_by point52 runs_from runs_of digits_up_to digits_of run_codes level_codes write_run_length
all_hold = refl

-- document 02, No. 1: where Section 5 has each number that unpacking takes
pub places-named : named_by places53
    ≡ Ok (named.Spatial 0x06070809 (template_by 20 22 23 0x20212223 36 37 0x26272829 42 0x2B2C2D2E 47) (record { order = 48; octets = 49 }))
unfolding first listed bit_in number_of table section_size at wrong_head named_by
places-named = refl

-- "Pack ten 0, 310 times 8, five 0, k 1": the lengths of its groups, and how they are coded
pub step-of-300 : length_coding (10 ∷ 310 ∷ 5 ∷ []) ≡ record { reference = 10; increment = 150; last = 5; bits = 2 }
unfolding listed greatest least width_coding digits_in bits gcd_in gcd gcd_from divisor_up_to increment_of but_last length_coding
step-of-300 = refl
