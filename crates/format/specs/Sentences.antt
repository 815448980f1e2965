-- Sentences of documents 01 and 02 that no case shows: one list with one claim. Assumes nothing.
use Rattle.std.specs.Prelude.{◌≡◌, refl, Bool, false, ℕ, zero, suc, ◌+◌, ◌^◌, eqb, ltb, replicate, set, take, pos, negsuc, neg_ℤ}
use mathlib.Core.List.{List, [], ◌∷◌, ◌++◌, map, flat_map}
use Rattle.std.proofs.lemmas.List.{length-replicate}
use Rattle.format.specs.Seen.{Case, ◌shows◌, AllHold, lent, refused, answered, numbers, spanned, number, points, point, levels, group, packs, reading_in, writing, template, unpacks, unpacking_in, unpacking, restoring_in, restoring, reading_section5, writing_section5, unpacking_section5, picking, picking_section5, locates, unrolling_in, unrolling, writing_levels, grouping, kind_numbers, packing_in, packing}
use Rattle.format.specs.Lists.{listed, total, joined, any_of, first_where, greatest, least}
use Rattle.format.specs.Refusals.{◌gives◌, first}
use Rattle.format.specs.Bits.{bit_in, number_of, span_of, read_field, write_field}
use Rattle.format.specs.Template.{template_by, widths_at, lengths_at, values_at}
use Rattle.format.specs.Unpacking.{codes_of, reference_of, said_by, group_width, group_length, points_before, bits_before, wrong_group, decoded, point_of, point_at, points_up_to, places_of, part_of, locate52, unpack52}
use Rattle.format.specs.Differences.{descriptors_of, raised, expected, restored, beyond, points53, locate53, left53, unpack53}
use Rattle.format.specs.RunLength.{levels_of, levels_up_to, only_padding, codes_read, repeats_first, run_length_up_to}
use Rattle.format.specs.Grouping.{digits_in, bits, width_of, ends_before, groups_from, groups_of, records_from, number_refusals, group_numbers_of}
use Rattle.format.specs.Packing.{summary_size, width_coding, gcd_in, gcd, gcd_from, divisor_up_to, increment_of, but_last, length_coding, template_of, length_codes, value_string, payload_of, packing_of, pack_by}
use Rattle.format.specs.Section5.{table, section_size, field_count, laid, at, wrong_head, read_section5, write_section5, named_by}
use Rattle.format.specs.Point.{point52}
use Rattle.format.specs.WritingRunLength.{runs_from, runs_of, digits_up_to, digits_of, run_codes, level_codes, write_run_length, write_run_length_refusals}
use Rattle.format.specs.Cases.{octets52, fields52, octets53, fields53}
use Rattle.format.specs.Layout.{point_octets, level_octets, levels_in, numbers_in, in_fours}
use Rattle.format.specs.declared.Refusal.TheVariants.{Width, Numbers}
use Rattle.format.specs.declared.Part.TheVariants.{References, Lengths, Values}
use Rattle.format.specs.declared.DecodedValue.TheVariants.{Normal, Missing1, Missing2}

abbrev pub sentences : List Case
sentences =
    -- the order of refusals: all faults at once, then one fewer each time
    -- 5.2
    unpacking_in (template_by 32 0 3 0 32 0 0 0 4 0) 5 [] 35 shows refused 1 (lent 35 ∷ [])
    ∷ unpacking_in (template_by 32 1 3 0 32 0 0 0 4 0) 5 [] 35 shows refused 2 (lent 35 ∷ [])
    ∷ unpacking_in (template_by 32 1 0 0 32 0 0 0 4 0) 5 [] 35 shows refused 6 (lent 35 ∷ [])
    ∷ unpacking_in (template_by 32 1 0 1 32 0 0 0 4 0) 5 [] 35 shows refused 5 (lent 35 ∷ [])
    ∷ unpacking_in (template_by 8 1 0 1 32 0 0 0 4 0) 5 [] 35 shows refused 7 (lent 35 ∷ [])
    ∷ unpacking_in (template_by 8 1 0 1 32 0 0 0 4 0) 5 (0x00 ∷ []) 35 shows refused 8 (lent 35 ∷ [])
    ∷ unpacking_in (template_by 8 1 0 1 3 0 0 0 4 0) 5 (0x00 ∷ []) 35 shows refused 7 (lent 35 ∷ [])
    ∷ unpacking_in (template_by 8 1 0 1 3 0 0 0 4 0) 5 (0x00 ∷ 0x0C ∷ 0x50 ∷ []) 35 shows refused 9 (lent 35 ∷ [])
    ∷ unpacking_in (template_by 8 1 0 1 3 0 0 0 4 0) 4 (0x00 ∷ 0x0C ∷ 0x50 ∷ []) 35 shows refused 10 (lent 35 ∷ [])
    ∷ unpacking_in (template_by 8 1 0 1 3 0 0 0 4 0) 4 (0x00 ∷ 0x0C ∷ 0x50 ∷ []) 36
    shows points (number 0 ∷ number 3 ∷ number 0 ∷ number 5 ∷ [])
    -- 5.3, but for 12
    ∷ restoring_in 0 0 (template_by 32 0 3 0 32 0 0 0 4 0) 5 [] 35 shows refused 3 (lent 35 ∷ [])
    ∷ restoring_in 1 0 (template_by 32 0 3 0 32 0 0 0 4 0) 5 [] 35 shows refused 1 (lent 35 ∷ [])
    ∷ restoring_in 1 0 (template_by 32 1 3 0 32 0 0 0 4 0) 5 [] 35 shows refused 2 (lent 35 ∷ [])
    ∷ restoring_in 1 0 (template_by 32 1 0 0 32 0 0 0 4 0) 5 [] 35 shows refused 4 (lent 35 ∷ [])
    ∷ restoring_in 1 1 (template_by 32 1 0 0 32 0 0 0 4 0) 5 [] 35 shows refused 7 (lent 35 ∷ [])
    ∷ restoring_in 1 1 (template_by 32 1 0 0 32 0 0 0 4 0) 5 (0x0A ∷ 0x82 ∷ []) 35 shows refused 6 (lent 35 ∷ [])
    ∷ restoring_in 1 1 (template_by 32 1 0 1 32 0 0 0 4 0) 5 (0x0A ∷ 0x82 ∷ []) 35 shows refused 5 (lent 35 ∷ [])
    ∷ restoring_in 1 1 (template_by 8 1 0 1 32 0 0 0 4 0) 5 (0x0A ∷ 0x82 ∷ []) 35 shows refused 7 (lent 35 ∷ [])
    ∷ restoring_in 1 1 (template_by 8 1 0 1 32 0 0 0 4 0) 5 (0x0A ∷ 0x82 ∷ 0x00 ∷ []) 35 shows refused 8 (lent 35 ∷ [])
    ∷ restoring_in 1 1 (template_by 8 1 0 1 3 0 0 0 4 0) 5 (0x0A ∷ 0x82 ∷ 0x00 ∷ []) 35 shows refused 7 (lent 35 ∷ [])
    ∷ restoring_in 1 1 (template_by 8 1 0 1 3 0 0 0 4 0) 5 (0x0A ∷ 0x82 ∷ 0x00 ∷ 0x0C ∷ 0x50 ∷ []) 35
    shows refused 9 (lent 35 ∷ [])
    ∷ restoring_in 1 1 (template_by 8 1 0 1 3 0 0 0 4 0) 4 (0x0A ∷ 0x82 ∷ 0x00 ∷ 0x0C ∷ 0x50 ∷ []) 35
    shows refused 10 (lent 35 ∷ [])
    ∷ restoring_in 1 1 (template_by 8 1 0 1 3 0 0 0 4 0) 4 (0x0A ∷ 0x82 ∷ 0x00 ∷ 0x0C ∷ 0x50 ∷ []) 36
    shows points (number 10 ∷ number 11 ∷ number 9 ∷ number 12 ∷ [])
    -- run-length
    ∷ unrolling_in 0 9 4 (0xCB ∷ []) 5 shows refused 5 (lent 5 ∷ [])
    ∷ unrolling_in 16 9 4 (0xCB ∷ []) 5 shows refused 5 (lent 5 ∷ [])
    ∷ unrolling_in 16 9 1 (0x00 ∷ 0x0A ∷ []) 1 shows refused 5 (lent 1 ∷ [])
    ∷ unrolling_in 4 16 4 (0xCB ∷ []) 5 shows refused 5 (lent 5 ∷ [])
    ∷ unrolling_in 4 9 4 (0xCB ∷ []) 5 shows refused 11 (lent 5 ∷ [])
    ∷ unrolling_in 4 9 4 (0x3C ∷ []) 5 shows refused 9 (lent 5 ∷ [])
    ∷ unrolling_in 4 9 3 (0x3C ∷ []) 5 shows refused 10 (lent 5 ∷ [])
    ∷ unrolling_in 4 9 3 (0x3C ∷ []) 6 shows levels (3 ∷ 3 ∷ 3 ∷ [])
    -- bit reader
    ∷ reading_in (0xBA ∷ []) 0 33 4 3 shows refused 5 (lent 3 ∷ [])
    ∷ reading_in (0xBA ∷ []) 8 3 4 3 shows refused 5 (lent 3 ∷ [])
    ∷ reading_in (0xBA ∷ []) 0 3 4 3 shows refused 7 (lent 3 ∷ [])
    ∷ reading_in (0xBA ∷ 0xF0 ∷ []) 0 3 4 3 shows refused 10 (lent 3 ∷ [])
    -- bit writer
    ∷ writing (256 ∷ []) 0 33 0 shows refused 5 ([] ∷ [])
    ∷ writing (256 ∷ []) 8 8 0 shows refused 5 ([] ∷ [])
    ∷ writing (32 ∷ []) 7 5 1 shows refused 13 (lent 1 ∷ [])
    ∷ writing (31 ∷ []) 7 5 1 shows refused 10 (lent 1 ∷ [])
    -- packing; what 10 leaves, that for the 40 octets nothing
    ∷ packing_in 0 (5 ∷ 6 ∷ 5 ∷ 7 ∷ []) 2 1 39 shows refused 13 (lent 32 ∷ lent 1 ∷ lent 39 ∷ [])
    ∷ packing_in 1 (5 ∷ 6 ∷ 5 ∷ 7 ∷ []) 2 1 39 shows refused 10 (lent 32 ∷ lent 1 ∷ lent 39 ∷ [])
    ∷ packing 1 (5 ∷ 6 ∷ 5 ∷ 7 ∷ []) 2 1
    shows refused 10 (flat_map in_fours (group 0 1 5 0 ∷ group 1 1 6 0 ∷ []) ∷ lent 1 ∷ lent summary_size ∷ [])
    ∷ packing 1 (5 ∷ 6 ∷ 5 ∷ 7 ∷ []) 4 1
    shows refused 10 (flat_map in_fours (group 0 1 5 0 ∷ group 1 1 6 0 ∷ group 2 1 5 0 ∷ group 3 1 7 0 ∷ []) ∷ lent 1 ∷ lent summary_size ∷ [])
    -- limits, on both sides where the lists are short enough
    -- 3: "not 1 or 2"; 4: "not 1 to 4"
    ∷ restoring_in 3 1 (template 0 0 1 3 0 0 0 4 0) 4 (0x0A ∷ 0x82 ∷ 0x0C ∷ 0x50 ∷ []) 36 shows refused 3 (lent 36 ∷ [])
    ∷ restoring_in 1 5 (template 0 0 1 3 0 0 0 4 0) 4 (0x0A ∷ 0x82 ∷ 0x0C ∷ 0x50 ∷ []) 36 shows refused 4 (lent 36 ∷ [])
    -- 5: "width or length bits above 32"; "run-length b not 1 to 15"
    ∷ unpacking (template 0 0 1 0 32 0 0 1 0) 1 (0 ∷ 0 ∷ 0 ∷ 0 ∷ []) shows points (number 0 ∷ [])
    ∷ unpacking (template 0 0 1 0 33 0 0 1 0) 1 (0 ∷ 0 ∷ 0 ∷ 0 ∷ 0 ∷ []) shows refused 5 (lent 9 ∷ [])
    ∷ unrolling 15 32767 1 (0xFF ∷ 0xFE ∷ []) shows levels (32767 ∷ [])
    -- 6 and 9: "above 4,194,304"
    ∷ unpacking_in (template 0 0 4194305 0 1 0 0 0 0) 0 [] 0 shows refused 6 (lent 0 ∷ [])
    ∷ unpacking_in (template 0 0 4194304 0 1 0 0 0 0) 0 [] 0 shows refused 7 (lent 0 ∷ [])
    ∷ unpacking_in (template 0 0 1 0 0 0 0 4194305 0) 4194305 [] 0 shows refused 9 (lent 0 ∷ [])
    ∷ unpacking_in (template 0 0 1 0 0 0 0 4194304 0) 4194304 [] 0 shows refused 10 (lent 0 ∷ [])
    -- 8: "a length other than the last above 4,294,967,295"
    ∷ unpacking_in (template 0 0 2 0 0 4294967295 1 0 1) 0 (0x80 ∷ []) 0 shows refused 8 (lent 0 ∷ [])
    ∷ unpacking_in (template 0 0 2 0 0 4294967295 1 0 1) 0 (0x00 ∷ []) 0 shows refused 9 (lent 0 ∷ [])
    ∷ unpacking_in (template 0 0 2 0 0 0 1 4294967296 1) 0 (0x00 ∷ []) 0 shows refused 9 (lent 0 ∷ [])
    -- 13: "lookahead outside 1 to 65,535"
    ∷ grouping 65535 (0 ∷ []) 4 shows answered (1 ∷ []) (group 0 1 0 0 ∷ [])
    ∷ grouping 65536 (0 ∷ []) 4 shows refused 13 (lent 4 ∷ [])
    -- the bit reader: "width 0 reads zeros and no octets"; widths as far as 32, a starting bit as far as 7
    ∷ reading_in [] 7 0 3 4 shows numbers (0 ∷ 0 ∷ 0 ∷ 255 ∷ [])
    ∷ reading_in [] 0 0 3 2 shows refused 10 (lent 2 ∷ [])
    ∷ reading_in (0x01 ∷ 0xFF ∷ 0xFF ∷ 0xFF ∷ 0xFE ∷ []) 7 32 1 1 shows numbers (4294967295 ∷ [])
    -- the bit writer: "widths 1 to 32"
    ∷ writing (0 ∷ []) 0 0 1 shows refused 5 (lent 1 ∷ [])
    ∷ writing (4294967295 ∷ []) 7 32 5 shows spanned 5 (0xFF ∷ 0xFF ∷ 0xFF ∷ 0xFF ∷ 0xFE ∷ [])
    ∷ writing (5 ∷ 6 ∷ 5 ∷ 7 ∷ []) 0 3 3 shows spanned 2 (0xBA ∷ 0xF0 ∷ 0xFF ∷ [])
    ∷ writing (29 ∷ 15 ∷ []) 2 5 3 shows spanned 2 (0xFA ∷ 0xF0 ∷ 0xFF ∷ [])
    ∷ writing [] 2 5 3 shows spanned 0 (0xFF ∷ 0xFF ∷ 0xFF ∷ [])
    ∷ writing (31 ∷ []) 7 5 2 shows spanned 2 (0xFF ∷ 0xF0 ∷ [])
    -- "value 2^w − 1 is missing 1 if m > 0; else 2^w − 2 is missing 2 if m = 2", in a group wide enough to tell them from 0 and 1
    ∷ unpacking (template 2 0 1 2 0 0 0 4 0) 4 (0x1B ∷ []) shows points (number 0 ∷ number 1 ∷ Missing2 ∷ Missing1 ∷ [])
    ∷ unpacking (template 1 0 1 2 0 0 0 4 0) 4 (0x1B ∷ []) shows points (number 0 ∷ number 1 ∷ number 2 ∷ Missing1 ∷ [])
    -- "Length = length code × increment + length reference"
    ∷ unpacking (template 0 3 3 1 0 2 2 1 1) 7 (0xA3 ∷ 0x80 ∷ 0x40 ∷ 0x6A ∷ [])
    shows points (number 5 ∷ number 6 ∷ number 1 ∷ number 0 ∷ number 1 ∷ number 0 ∷ number 8 ∷ [])
    -- "take all lengths but the last"; "The last length code is written 0."; "the greatest divisor of it that is at most 255"
    ∷ packing 1 (0 ∷ 0 ∷ 8 ∷ 8 ∷ 8 ∷ 8 ∷ 0 ∷ 0 ∷ 0 ∷ 0 ∷ 0 ∷ []) 3 3
    shows packs (4 ∷ 3 ∷ 0 ∷ 0 ∷ 2 ∷ 2 ∷ 5 ∷ 1 ∷ []) (0x08 ∷ 0x00 ∷ 0x40 ∷ []) (group 0 2 0 0 ∷ group 2 4 8 0 ∷ group 6 5 0 0 ∷ [])
    ∷ answered (map increment_of (0 ∷ 255 ∷ 256 ∷ 257 ∷ 510 ∷ [])) [] shows answered (0 ∷ 255 ∷ 128 ∷ 1 ∷ 255 ∷ []) []
    -- "Values follow group after group with no alignment between them.": groups of widths 1, 2 and 0
    ∷ packing 2 (0 ∷ 1 ∷ 8 ∷ 10 ∷ 1 ∷ []) 3 4
    shows packs (4 ∷ 3 ∷ 0 ∷ 2 ∷ 2 ∷ 0 ∷ 1 ∷ 0 ∷ []) (0x08 ∷ 0x10 ∷ 0x60 ∷ 0x48 ∷ []) (group 0 2 0 1 ∷ group 2 2 8 2 ∷ group 4 1 1 0 ∷ [])
    ∷ unpacking (template 0 4 3 0 2 2 0 1 0) 5 (0x08 ∷ 0x10 ∷ 0x60 ∷ 0x48 ∷ [])
    shows points (number 0 ∷ number 1 ∷ number 8 ∷ number 10 ∷ number 1 ∷ [])
    -- "Width reference = least group width; width bits = bits(greatest − least)."; "Width = width code + width reference."
    ∷ answered ((width_coding (4 ∷ 3 ∷ [])).reference ∷ (width_coding (4 ∷ 3 ∷ [])).bits ∷ []) [] shows answered (3 ∷ 1 ∷ []) []
    ∷ answered (packing_of (0 ∷ 1 ∷ 8 ∷ 11 ∷ []) ((0 ∷ 1 ∷ []) ∷ (8 ∷ 11 ∷ []) ∷ [])).payload [] shows answered (0x08 ∷ 0x40 ∷ 0x4C ∷ []) []
    ∷ unpacking (template 0 4 2 1 1 2 0 2 0) 4 (0x08 ∷ 0x40 ∷ 0x4C ∷ []) shows points (number 0 ∷ number 1 ∷ number 8 ∷ number 11 ∷ [])
    -- "Splitting method 1, missing management 0, both missing values 0xffffffff."
    ∷ answered (kind_numbers (packing_of (1 ∷ []) ((1 ∷ []) ∷ []))) [] shows answered (1 ∷ 0 ∷ 0xffffffff ∷ []) []
    -- first values have no sign; "Missing points do not advance this."
    ∷ restoring 2 4 (template 0 31 1 0 0 0 0 4 0) 4 (0x80 ∷ 0 ∷ 0 ∷ 0 ∷ 0 ∷ 0 ∷ 0 ∷ 1 ∷ 0x80 ∷ 0 ∷ 0 ∷ 0 ∷ 0 ∷ 0 ∷ 0 ∷ 0 ∷ [])
    shows points (number 2147483648 ∷ number 1 ∷ Normal (negsuc 2147483645) ∷ Normal (negsuc 4294967292) ∷ [])
    ∷ restoring 1 1 (template 1 0 1 3 0 0 0 5 0) 5 (0x0A ∷ 0x82 ∷ 0xE3 ∷ 0xBA ∷ [])
    shows points (Missing1 ∷ number 10 ∷ Missing1 ∷ number 11 ∷ number 14 ∷ [])
    ∷ restoring 2 1 (template 1 0 1 2 0 0 0 5 0) 5 (0x0A ∷ 0x0C ∷ 0x81 ∷ 0x33 ∷ 0x40 ∷ [])
    shows points (number 10 ∷ Missing1 ∷ number 12 ∷ Missing1 ∷ number 14 ∷ [])
    -- 12: "beyond 2^60 either way", and what it leaves
    ∷ unpacks (left53 2 (number (2 ^ 60) ∷ Normal (neg_ℤ (pos (2 ^ 60))) ∷ []) (lent 19))
    shows answered (2 ∷ []) ((flat_map point_octets (number (2 ^ 60) ∷ Normal (neg_ℤ (pos (2 ^ 60))) ∷ []) ++ lent 1) ∷ [])
    ∷ unpacks (left53 2 (Missing1 ∷ number (2 ^ 60 + 1) ∷ []) (lent 19))
    shows refused 12 ((flat_map point_octets (number 0 ∷ number 0 ∷ []) ++ lent 1) ∷ [])
    ∷ unpacks (left53 2 (Normal (neg_ℤ (pos (2 ^ 60 + 1))) ∷ Missing2 ∷ []) (lent 19))
    shows refused 12 ((flat_map point_octets (number 0 ∷ number 0 ∷ []) ++ lent 1) ∷ [])
    -- where the parts are
    ∷ locates (locate52 (template 0 3 2 0 1 3 0 1 0) (0xBC ∷ 0x80 ∷ 0x40 ∷ [])) shows answered (0 ∷ 1 ∷ 2 ∷ 2 ∷ 3 ∷ 4 ∷ []) []
    ∷ locates (locate52 (template 0 3 2 0 1 3 0 1 0) (0xBC ∷ 0x80 ∷ [])) shows refused 7 []
    ∷ locates (locate53 (template 0 0 1 3 0 0 0 4 0) (record { order = 1; octets = 1 }) (0x0A ∷ 0x82 ∷ 0x0C ∷ 0x50 ∷ []))
    shows answered (2 ∷ 2 ∷ 2 ∷ 2 ∷ 4 ∷ 4 ∷ []) []
    ∷ answered (part_of References (0xBC ∷ 0x80 ∷ 0x40 ∷ []) (locate52 (template 0 3 2 0 1 3 0 1 0) (0xBC ∷ 0x80 ∷ 0x40 ∷ []))) []
    shows answered (0xBC ∷ []) []
    ∷ answered (part_of Lengths (0xBC ∷ 0x80 ∷ 0x40 ∷ []) (locate52 (template 0 3 2 0 1 3 0 1 0) (0xBC ∷ 0x80 ∷ 0x40 ∷ []))) []
    shows answered [] []
    ∷ answered (part_of Values (0xBC ∷ 0x80 ∷ 0x40 ∷ 0xFF ∷ []) (locate52 (template 0 3 2 0 1 3 0 1 0) (0xBC ∷ 0x80 ∷ 0x40 ∷ 0xFF ∷ []))) []
    shows answered (0x40 ∷ []) []
    -- groups by themselves, in lent numbers; "spare octets short of a whole one are not used"
    ∷ grouping 2 (0 ∷ 0 ∷ 0 ∷ 0 ∷ 8 ∷ 8 ∷ 8 ∷ []) 9 shows answered (2 ∷ []) ((group 0 4 0 0 ++ group 4 3 8 0 ++ lent 1) ∷ [])
    ∷ grouping 2 (0 ∷ 0 ∷ 0 ∷ 0 ∷ 8 ∷ 8 ∷ 8 ∷ []) 7 shows refused 10 ((group 0 4 0 0 ++ lent 3) ∷ [])
    ∷ answered (numbers_in (0 ∷ 0 ∷ 1 ∷ 5 ∷ 9 ∷ 9 ∷ 9 ∷ [])) [] shows answered (261 ∷ []) []
    -- "a point there is nine octets, the mark and then the number, big-endian two's complement"; "a missing point holds number 0"
    ∷ answered (flat_map point_octets (number 258 ∷ Normal (negsuc 1) ∷ Missing1 ∷ Missing2 ∷ [])) []
    shows answered
    (0 ∷ 0 ∷ 0 ∷ 0 ∷ 0 ∷ 0 ∷ 0 ∷ 1 ∷ 2
    ∷ 0 ∷ 255 ∷ 255 ∷ 255 ∷ 255 ∷ 255 ∷ 255 ∷ 255 ∷ 254
    ∷ 1 ∷ 0 ∷ 0 ∷ 0 ∷ 0 ∷ 0 ∷ 0 ∷ 0 ∷ 0
    ∷ 2 ∷ 0 ∷ 0 ∷ 0 ∷ 0 ∷ 0 ∷ 0 ∷ 0 ∷ 0 ∷ [])
    []
    -- "A number to pack and each of a group's four numbers take four octets, a level two"
    ∷ answered (in_fours (16909060 ∷ []) ++ level_octets 258) [] shows answered (1 ∷ 2 ∷ 3 ∷ 4 ∷ 1 ∷ 2 ∷ []) []
    -- run-length: no repeat codes; a base of one; "fewer than b bits at the end are ignored"
    ∷ unrolling 4 15 2 (0x3F ∷ []) shows levels (3 ∷ 15 ∷ [])
    ∷ unrolling 4 14 3 (0x3F ∷ 0xE0 ∷ []) shows levels (3 ∷ 14 ∷ 0 ∷ [])
    ∷ unrolling 3 7 2 (0x53 ∷ []) shows levels (2 ∷ 4 ∷ [])
    ∷ unrolling 9 3 0 (0xFF ∷ []) shows levels []
    -- document 02, No. 1: 14 "comes before all others": all faults at once, then one fewer each time
    ∷ reading_section5 (take 46 octets52) 79 shows refused 14 (lent 79 ∷ [])
    ∷ reading_section5 octets52 79 shows refused 10 (lent 79 ∷ [])
    ∷ writing_section5 (set (set fields52 1 6) 7 256) 46 shows refused 14 (lent 46 ∷ [])
    ∷ writing_section5 (set fields52 7 256) 46 shows refused 13 (lent 46 ∷ [])
    ∷ writing_section5 (set fields52 7 255) 46 shows refused 10 (lent 46 ∷ [])
    ∷ unpacking_section5 (set (set octets52 4 6) 21 0) [] 0 shows refused 14 (lent 0 ∷ [])
    ∷ unpacking_section5 (set octets52 21 0) [] 0 shows refused 1 (lent 0 ∷ [])
    -- "fewer octets are lent than the template has": none at all, too few to name a template, one too few
    ∷ reading_section5 [] 80 shows refused 14 (lent 80 ∷ [])
    ∷ reading_section5 (take 10 octets52) 80 shows refused 14 (lent 80 ∷ [])
    ∷ reading_section5 (take 48 octets53) 88 shows refused 14 (lent 88 ∷ [])
    ∷ writing_section5 (take 19 fields52) 47 shows refused 14 (lent 47 ∷ [])
    ∷ writing_section5 (take 21 fields53) 49 shows refused 14 (lent 49 ∷ [])
    -- "the length is not the template's, the section number is not 5, or the template is neither"
    ∷ reading_section5 (set octets52 3 49) 80 shows refused 14 (lent 80 ∷ [])
    ∷ reading_section5 (set octets52 4 7) 80 shows refused 14 (lent 80 ∷ [])
    ∷ reading_section5 (set octets52 10 4) 80 shows refused 14 (lent 80 ∷ [])
    ∷ reading_section5 (set octets52 10 1) 80 shows refused 14 (lent 80 ∷ [])
    ∷ reading_section5 (set octets53 3 47) 88 shows refused 14 (lent 88 ∷ [])
    ∷ reading_section5 (set octets52 4 4) 80 shows refused 14 (lent 80 ∷ [])
    ∷ reading_section5 (set octets52 9 1) 80 shows refused 14 (lent 80 ∷ [])
    ∷ writing_section5 (set fields52 0 49) 49 shows refused 14 (lent 49 ∷ [])
    ∷ writing_section5 (set fields53 3 4) 49 shows refused 14 (lent 49 ∷ [])
    -- 13, for a row of each size; 10, for 5.3 too
    ∷ writing_section5 (set fields52 5 65536) 47 shows refused 13 (lent 47 ∷ [])
    ∷ writing_section5 (set fields52 4 4294967296) 47 shows refused 13 (lent 47 ∷ [])
    ∷ reading_section5 octets53 87 shows refused 10 (lent 87 ∷ [])
    ∷ writing_section5 fields53 48 shows refused 10 (lent 48 ∷ [])
    -- more than the template has is not looked at, and what is past the answer stays
    ∷ reading_section5 (octets52 ++ (9 ∷ [])) 83 shows numbers (in_fours fields52 ++ lent 3)
    ∷ writing_section5 (fields52 ++ (256 ∷ 256 ∷ [])) 48 shows spanned 47 (octets52 ++ lent 1)
    -- reading judges no template number
    ∷ reading_section5 (set octets52 19 200) 80 shows numbers (in_fours (set fields52 7 200))
    ∷ writing_section5 (set fields52 7 200) 47 shows spanned 47 (set octets52 19 200)
    ∷ unpacking_section5 (set octets52 19 200) (0xBC ∷ 0x80 ∷ 0x40 ∷ []) 36 shows refused 5 (lent 36 ∷ [])
    -- document 02, No. 3, by Section 5: 14 before all others; a Section 5 of 5.3 is 14, "For template 5.2"
    ∷ picking_section5 5 (set (set octets52 4 6) 21 0) [] shows refused 14 []
    ∷ picking_section5 5 (set octets52 21 0) [] shows refused 1 []
    ∷ picking_section5 0 octets53 (0x0A ∷ 0x82 ∷ 0x0C ∷ 0x50 ∷ []) shows refused 14 []
    -- 15 "comes after 9, and 10 does not arise": all faults at once, then one fewer each time
    ∷ picking 5 (template_by 32 0 3 0 32 0 0 0 4 0) 5 [] shows refused 1 []
    ∷ picking 5 (template_by 32 1 3 0 32 0 0 0 4 0) 5 [] shows refused 2 []
    ∷ picking 5 (template_by 32 1 0 0 32 0 0 0 4 0) 5 [] shows refused 6 []
    ∷ picking 5 (template_by 32 1 0 1 32 0 0 0 4 0) 5 [] shows refused 5 []
    ∷ picking 5 (template_by 8 1 0 1 32 0 0 0 4 0) 5 [] shows refused 7 []
    ∷ picking 5 (template_by 8 1 0 1 32 0 0 0 4 0) 5 (0x00 ∷ []) shows refused 8 []
    ∷ picking 5 (template_by 8 1 0 1 3 0 0 0 4 0) 5 (0x00 ∷ []) shows refused 7 []
    ∷ picking 5 (template_by 8 1 0 1 3 0 0 0 4 0) 5 (0x00 ∷ 0x0C ∷ 0x50 ∷ []) shows refused 9 []
    ∷ picking 5 (template_by 8 1 0 1 3 0 0 0 4 0) 4 (0x00 ∷ 0x0C ∷ 0x50 ∷ []) shows refused 15 []
    ∷ picking 3 (template_by 8 1 0 1 3 0 0 0 4 0) 4 (0x00 ∷ 0x0C ∷ 0x50 ∷ []) shows point (number 5)
    -- the declared count and its limit
    ∷ picking 4194305 (template 0 0 1 0 0 0 0 4194305 0) 4194305 [] shows refused 9 []
    ∷ picking 4194304 (template 0 0 1 0 0 0 0 4194304 0) 4194304 [] shows refused 15 []
    -- missing 2; values of the next group right behind those of the one before: 0 0 of width 2 for reference 0, 1 2 of width 2
    -- for reference 8, and 9
    ∷ picking 2 (template 2 0 1 2 0 0 0 4 0) 4 (0x1B ∷ []) shows point Missing2
    ∷ picking 3 (template 0 4 3 0 2 2 0 1 0) 5 (0x08 ∷ 0x90 ∷ 0xA0 ∷ 0x06 ∷ []) shows point (number 10)
    -- groups of no points are passed over, before, between and behind others: lengths 0, 1, 0, 1, 0 of references 5 to 9
    ∷ picking 0 (template 0 8 5 0 0 0 1 0 1) 2 (5 ∷ 6 ∷ 7 ∷ 8 ∷ 9 ∷ 0x50 ∷ []) shows point (number 6)
    ∷ picking 1 (template 0 8 5 0 0 0 1 0 1) 2 (5 ∷ 6 ∷ 7 ∷ 8 ∷ 9 ∷ 0x50 ∷ []) shows point (number 8)
    -- a map of no points has no place
    ∷ picking 0 (template 0 8 1 0 0 0 0 0 0) 0 (5 ∷ []) shows refused 15 []
    -- document 02, No. 4: "once the declared count is reached": one less, and one more than there is
    ∷ unrolling 4 9 3 (0x3C ∷ 0x50 ∷ []) shows refused 9 (lent 6 ∷ [])
    ∷ unrolling 4 9 6 (0x3C ∷ 0x50 ∷ []) shows refused 9 (lent 12 ∷ [])
    -- "before any code": one payload for three counts; behind a level; behind a repeat code that adds no point
    ∷ unrolling 3 7 2 (0xFF ∷ 0x80 ∷ []) shows refused 9 (lent 4 ∷ [])
    ∷ unrolling 3 7 3 (0xFF ∷ 0x80 ∷ []) shows levels (7 ∷ 7 ∷ 7 ∷ [])
    ∷ unrolling 3 7 4 (0xFF ∷ 0x80 ∷ []) shows levels (7 ∷ 7 ∷ 7 ∷ 0 ∷ [])
    ∷ unrolling 3 7 5 (0xFF ∷ 0x80 ∷ []) shows levels (7 ∷ 7 ∷ 7 ∷ 0 ∷ 0 ∷ [])
    ∷ unrolling 4 14 2 (0x3F ∷ 0xE0 ∷ []) shows levels (3 ∷ 14 ∷ [])
    ∷ unrolling 2 1 1 (0x60 ∷ []) shows levels (1 ∷ [])
    -- "fewer than 8 bits": with eight it goes on, and so from b 8 on
    ∷ unrolling 4 9 2 (0x35 ∷ 0x00 ∷ []) shows refused 9 (lent 4 ∷ [])
    ∷ unrolling 4 9 3 (0x35 ∷ 0x00 ∷ []) shows levels (3 ∷ 5 ∷ 0 ∷ [])
    ∷ unrolling 4 9 1 (0x30 ∷ 0x00 ∷ []) shows refused 9 (lent 2 ∷ [])
    ∷ unrolling 1 1 1 (0x80 ∷ []) shows levels (1 ∷ [])
    ∷ unrolling 3 7 0 (0x00 ∷ []) shows refused 9 (lent 0 ∷ [])
    ∷ unrolling 8 255 1 (0x05 ∷ 0x00 ∷ []) shows refused 9 (lent 2 ∷ [])
    -- "all zero": a tail short of a code too; bits, and not levels
    ∷ unrolling 3 7 1 (0x40 ∷ []) shows levels (2 ∷ [])
    ∷ unrolling 3 7 1 (0x41 ∷ []) shows refused 9 (lent 2 ∷ [])
    ∷ unrolling 3 7 2 (0x41 ∷ []) shows levels (2 ∷ 0 ∷ [])
    ∷ unrolling 2 2 1 (0x0C ∷ []) shows refused 9 (lent 2 ∷ [])
    -- the order of refusals where padding is left, and what lies past the levels
    ∷ unrolling_in 4 16 1 (0xC0 ∷ []) 1 shows refused 5 (lent 1 ∷ [])
    ∷ unrolling_in 4 9 1 (0xC0 ∷ []) 1 shows refused 11 (lent 1 ∷ [])
    ∷ unrolling_in 4 9 1 (0x30 ∷ []) 1 shows refused 10 (lent 1 ∷ [])
    ∷ unrolling_in 4 9 1 (0x30 ∷ []) 4 shows answered (1 ∷ []) ((0 ∷ 3 ∷ 255 ∷ 255 ∷ []) ∷ [])
    -- document 02, No. 5: its refusals, all faults at once, then one fewer each time, and octets past the payload
    ∷ writing_levels 0 0 (3 ∷ 10 ∷ []) 0 shows refused 5 (lent 0 ∷ [])
    ∷ writing_levels 16 9 (3 ∷ 10 ∷ []) 0 shows refused 5 (lent 0 ∷ [])
    ∷ writing_levels 4 16 (3 ∷ 17 ∷ []) 0 shows refused 5 (lent 0 ∷ [])
    ∷ writing_levels 4 9 (3 ∷ 10 ∷ []) 0 shows refused 13 (lent 0 ∷ [])
    ∷ writing_levels 4 9 (3 ∷ 9 ∷ 0 ∷ []) 1 shows refused 10 (lent 1 ∷ [])
    ∷ writing_levels 4 9 (3 ∷ 9 ∷ 0 ∷ []) 2 shows spanned 2 (0x39 ∷ 0x00 ∷ [])
    ∷ writing_levels 4 9 (3 ∷ 9 ∷ 0 ∷ []) 3 shows spanned 2 (0x39 ∷ 0x00 ∷ 255 ∷ [])
    -- "no buffer is changed by them": 13 for the first level, and for the last
    ∷ writing_levels 4 9 (10 ∷ 3 ∷ 3 ∷ []) 2 shows refused 13 (lent 2 ∷ [])
    ∷ writing_levels 4 9 (3 ∷ 3 ∷ 300 ∷ []) 2 shows refused 13 (lent 2 ∷ [])
    -- "An empty list writes nothing.", and 5 is tested all the same
    ∷ writing_levels 4 9 [] 0 shows spanned 0 []
    ∷ writing_levels 4 9 [] 1 shows spanned 0 (255 ∷ [])
    ∷ writing_levels 0 0 [] 1 shows refused 5 (lent 1 ∷ [])
    ∷ writing_levels 16 9 [] 1 shows refused 5 (lent 1 ∷ [])
    ∷ writing_levels 4 16 [] 1 shows refused 5 (lent 1 ∷ [])
    -- "least first, no leading zero digit at the top": base 6, one digit to four; base 2, a run of two to a run of seventeen
    ∷ writing_levels 4 9 (replicate 6 3) 1 shows spanned 1 (0x3F ∷ [])
    ∷ writing_levels 4 9 (replicate 7 3) 2 shows spanned 2 (0x3A ∷ 0xB0 ∷ [])
    ∷ writing_levels 4 9 (replicate 40 9) 2 shows spanned 2 (0x9D ∷ 0xAB ∷ [])
    ∷ writing_levels 4 9 (replicate 300 9) 3 shows spanned 3 (0x9F ∷ 0xBC ∷ 0xB0 ∷ [])
    ∷ writing_levels 2 1 (1 ∷ 0 ∷ 0 ∷ []) 1 shows spanned 1 (0x4C ∷ [])
    ∷ writing_levels 2 1 (replicate 3 0) 1 shows spanned 1 (0x2C ∷ [])
    ∷ writing_levels 2 1 (replicate 4 0) 1 shows spanned 1 (0x3C ∷ [])
    ∷ writing_levels 2 1 (replicate 5 0) 1 shows spanned 1 (0x2B ∷ [])
    ∷ writing_levels 2 1 (replicate 17 0) 2 shows spanned 2 (0x2A ∷ 0xB0 ∷ [])
    -- "the base": 3, 22 and 311, and M 0
    ∷ writing_levels 3 4 (replicate 5 4) 2 shows spanned 2 (0x9B ∷ 0x00 ∷ [])
    ∷ writing_levels 5 9 (replicate 24 9) 2 shows spanned 2 (0x4A ∷ 0xD6 ∷ [])
    ∷ writing_levels 9 200 (replicate 400 7) 4 shows spanned 4 (0x03 ∷ 0xC8 ∷ 0x59 ∷ 0x40 ∷ [])
    ∷ writing_levels 2 0 (0 ∷ []) 1 shows spanned 1 (0x00 ∷ [])
    -- "Where the base is below 2, a run repeats its level instead.": base 1, base 0, and the greatest level
    ∷ writing_levels 4 14 (3 ∷ 3 ∷ 3 ∷ []) 2 shows spanned 2 (0x33 ∷ 0x30 ∷ [])
    ∷ writing_levels 4 14 (replicate 9 14) 5 shows spanned 5 (0xEE ∷ 0xEE ∷ 0xEE ∷ 0xEE ∷ 0xE0 ∷ [])
    ∷ writing_levels 4 15 (15 ∷ 15 ∷ 3 ∷ []) 2 shows spanned 2 (0xFF ∷ 0x30 ∷ [])
    ∷ writing_levels 1 1 (1 ∷ 0 ∷ 1 ∷ []) 1 shows spanned 1 (0xA0 ∷ [])
    -- "each longest run": a level that comes again is a run of its own
    ∷ writing_levels 4 9 (3 ∷ 5 ∷ 5 ∷ 3 ∷ 3 ∷ []) 3 shows spanned 3 (0x35 ∷ 0xB3 ∷ 0xB0 ∷ [])
    -- "Pad with zero bits.", of codes of 15 bits too
    ∷ writing_levels 15 32767 (32767 ∷ 1 ∷ []) 4 shows spanned 4 (0xFF ∷ 0xFE ∷ 0x00 ∷ 0x04 ∷ [])
    ∷ writing_levels 3 7 (7 ∷ []) 1 shows spanned 1 (0xE0 ∷ [])
    -- "a level two", big-endian, and a spare octet
    ∷ answered (levels_in (1 ∷ 5 ∷ 0xFF ∷ 0xFE ∷ 9 ∷ [])) [] shows answered (261 ∷ 65534 ∷ []) []
    ∷ []

pub all_hold : AllHold sentences
unfolding listed reference_of total joined any_of first_where greatest least flat_map first bit_in number_of span_of read_field write_field widths_at lengths_at values_at codes_of said_by group_width group_length points_before bits_before wrong_group decoded point_of point_at points_up_to places_of locate52 unpack52 descriptors_of raised expected restored beyond points53 locate53 left53 unpack53 levels_of levels_up_to only_padding codes_read repeats_first run_length_up_to digits_in bits width_of ends_before groups_from groups_of records_from group_numbers_of width_coding gcd_in gcd gcd_from divisor_up_to increment_of but_last length_coding template_of length_codes value_string payload_of packing_of pack_by table section_size field_count laid at wrong_head read_section5 write_section5 named_by point52 runs_from runs_of digits_up_to digits_of run_codes level_codes write_run_length
all_hold = refl

-- 13: "above 4,194,304 numbers" is too long a list to compute. The rows that n zeros meet with lookahead 1, whatever n is:
zeros-small : (test : ℕ → Bool) → test 0 ≡ false → (n : ℕ) → any_of test (replicate n 0) ≡ false
unfolding any_of
zeros-small test h zero = refl
zeros-small test h (suc n) = rw h (zeros-small test h n)

pub rows-of-zeros : (n : ℕ) →
    number_refusals 1 (replicate n 0)
    ≡ (eqb n 0 gives Numbers ∷ ltb 4194304 n gives Numbers ∷ false gives Numbers ∷ false gives Numbers ∷ false gives Numbers ∷ [])
rows-of-zeros n = simp (length-replicate {A = ℕ} n 0, zeros-small (ltb 2147483647) refl n)

-- and those that n levels of 0 meet when they are written, before 10
pub rows-of-levels : (n : ℕ) →
    take 5 (write_run_length_refusals 8 200 (replicate n 0) [])
    ≡ (false gives Width ∷ false gives Width ∷ false gives Width ∷ false gives Numbers ∷ ltb 4194304 n gives Numbers ∷ [])
rows-of-levels n = simp (length-replicate {A = ℕ} n 0, zeros-small (ltb 200) refl n)
