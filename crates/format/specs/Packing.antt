-- Document 01, "Grouping and packing": template numbers and payload. Assumes nothing.
use Rattle.std.specs.Prelude.{ℕ, zero, suc, ◌-◌, ◌/◌, ◌%◌, cond, eqb, leb, ltb, length, get_or}
use mathlib.Core.List.{List, [], ◌∷◌, ◌++◌, map, flat_map}
use Rattle.format.specs.Lists.{greatest, least, ◌over◌}
use Rattle.format.specs.Bits.{string_of, padded}
use Rattle.format.specs.Layout.{in_fours, group_size, group_octets}
use Rattle.format.specs.Refusals.{◌gives◌, first, room_refusals}
use Rattle.format.specs.Template.{template_numbers}
use Rattle.format.specs.Grouping.{bits, width_of, groups_of, records_from, number_refusals, groups_lent}
use Rattle.format.specs.declared.Refusal.TheVariants.{Room}
use Rattle.format.specs.declared.Template.{Template}
use Rattle.format.specs.declared.Lengths.{Lengths}
use Rattle.format.specs.declared.Widths.{Widths}
use Rattle.format.specs.declared.Group.{Group}
use Rattle.format.specs.declared.Packed.{Packed}
use Rattle.format.specs.declared.Refusal.{Refusal}
use Rattle.std.specs.declared.result.Result.{Result}
use Rattle.std.specs.declared.result.Result.TheVariants.{Ok, Err}

-- ---- template numbers

-- "Width reference = least group width; width bits = bits(greatest − least)."
unfoldable pub width_coding : List ℕ → Widths
width_coding widths = record { reference = least widths; bits = bits (greatest widths - least widths) }

-- "the greatest common divisor by repeated remainders, calling itself": the first number bounds the calls
unfoldable pub gcd_in : ℕ → ℕ → ℕ → ℕ
gcd_in zero a b = a
gcd_in (suc n) a zero = a
gcd_in (suc n) a (suc b) = gcd_in n (suc b) (a % suc b)

unfoldable pub gcd : ℕ → ℕ → ℕ
gcd a b = gcd_in b a b

-- of several numbers, a being that of those before them
unfoldable pub gcd_from : ℕ → List ℕ → ℕ
gcd_from a [] = a
gcd_from a (b ∷ numbers) = gcd_from (gcd a b) numbers

-- "the greatest divisor of it that is at most" n
unfoldable pub divisor_up_to : ℕ → ℕ → ℕ
divisor_up_to step zero = 0
divisor_up_to step (suc n) = cond (eqb (step % suc n) 0) (suc n) (divisor_up_to step n)

-- "Step 0 gives increment 0, bits 0. A step up to 255 is the increment; a larger one gives the greatest divisor of it that is
-- at most 255."
unfoldable pub increment_of : ℕ → ℕ
increment_of step = cond (leb step 255) step (divisor_up_to step 255)

unfoldable pub but_last : List ℕ → List ℕ
but_last [] = []
but_last (x ∷ []) = []
but_last (x ∷ y ∷ ys) = x ∷ but_last (y ∷ ys)

-- "With one group, length reference, increment and length bits are 0. Otherwise take all lengths but the last: reference =
-- least, step = the greatest common divisor [..] of the differences from it. [..] Length bits = bits(greatest difference /
-- increment).": with one group there is no length but the last, and all three come to 0; at increment 0 a quotient is 0
unfoldable pub length_coding : List ℕ → Lengths
length_coding lengths =
    let reference = least (but_last lengths) in
    let differences = map (λ length. length - reference) (but_last lengths) in
    let increment = increment_of (gcd_from 0 differences) in
    record {
      reference = reference;
      increment = increment;
      last = get_or lengths (length lengths - 1) 0;
      bits = bits (greatest differences / increment);
    }

-- "Number width = bits(greatest number). [..] Splitting method 1, missing management 0"
unfoldable pub template_of : List ℕ → List (List ℕ) → Template
template_of numbers groups = record {
  width = bits (greatest numbers);
  splitting = 1;
  management = 0;
  groups = length groups;
  widths = width_coding (map width_of groups);
  lengths = length_coding (map length groups);
}

-- ---- payload

-- "The last length code is written 0."
unfoldable pub length_codes : Lengths → List ℕ → List ℕ
length_codes coding lengths = map (λ length. (length - coding.reference) / coding.increment) (but_last lengths) ++ (0 ∷ [])

-- "Values follow group after group with no alignment between them."
unfoldable pub value_string : List (List ℕ) → List ℕ
value_string groups = flat_map (λ group. string_of (width_of group) (map (λ number. number - least group) group)) groups

-- "each starting on an octet: [..] group references at the number width, width codes, length codes, values"
unfoldable pub payload_of : Template → List (List ℕ) → List ℕ
payload_of t groups =
    padded (string_of t.width (map least groups))
    ++ padded (string_of t.widths.bits (map (λ group. width_of group - t.widths.reference) groups))
    ++ padded (string_of t.lengths.bits (length_codes t.lengths (map length groups)))
    ++ padded (value_string groups)

-- ---- a packing

pub record Packing : Type 0 where
  pub template : Template
  pub records : List Group
  pub payload : List ℕ

-- of numbers that some rule has put into groups
unfoldable pub packing_of : List ℕ → List (List ℕ) → Packing
packing_of numbers groups = record {
  template = template_of numbers groups;
  records = records_from 0 groups;
  payload = payload_of (template_of numbers groups) groups;
}

-- "both missing values 0xffffffff", for whoever writes them: no operation of document 01 hands them over
abbrev pub missing_value : ℕ
missing_value = 0xffffffff

-- "Packing's eight template numbers, in the order of the cases, the group count and the payload length go to a lent 40 octets"
abbrev pub summary_numbers : Template → ℕ → ℕ → List ℕ
summary_numbers t groups octets = template_numbers t ++ (groups ∷ octets ∷ [])

abbrev pub summary_size : ℕ
summary_size = 40

-- what packing comes to: its answer, and what was lent, as it is left
pub record LeftPacked : Type 0 where
  pub answer : Result Packed Refusal
  pub groups : List ℕ
  pub payload : List ℕ
  pub summary : List ℕ

-- "Packing: 13, 10 for the group list, 10 for the payload." The 40 octets are "tested for 10 before the group list and changed
-- only by success". "10 for the group list leaves the first groups in all lent slots; 10 for the payload leaves the groups
-- written." The rule for groups may add a cost for ending one.
unfoldable pub pack_by : ℕ → ℕ → List ℕ → List ℕ → List ℕ → List ℕ → LeftPacked
pack_by added k numbers groups payload summary =
    let p = packing_of numbers (groups_of width_of added k numbers) in
    let stored = (groups_lent group_octets group_size p.records groups).buffer in
    first (λ r. record { answer = Err r; groups = groups; payload = payload; summary = summary })
    (number_refusals k numbers ++ (ltb (length summary) summary_size gives Room ∷ []))
    (first (λ r. record { answer = Err r; groups = stored; payload = payload; summary = summary })
    (room_refusals group_size groups (length p.records) ++ (ltb (length payload) (length p.payload) gives Room ∷ []))
    (record {
      answer = Ok (record { template = p.template; octets = record { 0 = length p.payload } });
      groups = stored;
      payload = p.payload over payload;
      summary = in_fours (summary_numbers p.template (length p.records) (length p.payload)) over summary;
    }))

-- document 01's rule adds none
abbrev pub pack : ℕ → List ℕ → List ℕ → List ℕ → List ℕ → LeftPacked
pack = pack_by 0
