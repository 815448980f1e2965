-- What an operation shows: its number, what it answers, and the buffers that it leaves. Assumes nothing.
use Rattle.std.specs.Prelude.{ℕ, ◌*◌, ◌≡◌, length, replicate, pos}
use mathlib.Core.List.{List, [], ◌∷◌, ◌++◌, map, flat_map}
use Rattle.format.specs.Refusals.{Left, refusal_number, answer_number}
use Rattle.format.specs.Bits.{read_field, write_field}
use Rattle.format.specs.Layout.{point_size, point_octets, mark_of, held_by, twos_complement, level_size, level_octets, group_size, in_fours}
use Rattle.format.specs.Template.{template_numbers, template_by}
use Rattle.format.specs.Unpacking.{unpack52}
use Rattle.format.specs.Differences.{unpack53}
use Rattle.format.specs.Section5.{read_section5, write_section5, unpack_section5}
use Rattle.format.specs.Point.{point52, point_section5}
use Rattle.format.specs.RunLength.{run_length}
use Rattle.format.specs.WritingRunLength.{write_run_length}
use Rattle.format.specs.Grouping.{group_numbers_of}
use Rattle.format.specs.Packing.{Packing, missing_value, summary_size, pack}
use Rattle.format.specs.declared.Template.{Template}
use Rattle.format.specs.declared.DecodedValue.{DecodedValue}
use Rattle.format.specs.declared.DecodedValue.TheVariants.{Normal}
use Rattle.format.specs.declared.Located.{Located}
use Rattle.format.specs.declared.Packed.{Packed}
use Rattle.format.specs.declared.Refusal.{Refusal}
use Rattle.format.specs.declared.OctetPlace.{OctetPlace}
use Rattle.std.specs.declared.result.Result.{Result}
use Rattle.std.specs.declared.result.Result.TheVariants.{Ok, Err}

pub record Seen : Type 0 where
  pub number : ℕ
  pub answers : List ℕ
  pub left : List (List ℕ)

pub data Case : Type 0 where
  ◌shows◌ : Seen → Seen → Case

infix 70 ◌shows◌
abbrev pub found : Case → Seen
found (x shows y) = x

abbrev pub shown : Case → Seen
shown (x shows y) = y

-- "one list with one claim"
abbrev pub AllHold : List Case → Type 0
AllHold cases = map found cases ≡ map shown cases

-- ---- what is expected

-- a lent buffer before the operation: all octets, or all numbers, 255
abbrev pub lent : ℕ → List ℕ
lent n = replicate n 255

abbrev pub refused : ℕ → List (List ℕ) → Seen
refused number buffers = record { number = number; answers = []; left = buffers }

abbrev pub answered : List ℕ → List (List ℕ) → Seen
answered answers buffers = record { number = 0; answers = answers; left = buffers }

abbrev pub numbers : List ℕ → Seen
numbers xs = answered [] (xs ∷ [])

abbrev pub spanned : ℕ → List ℕ → Seen
spanned octets buffer = answered (octets ∷ []) (buffer ∷ [])

abbrev pub number : ℕ → DecodedValue
number n = Normal (pos n)

abbrev pub points : List DecodedValue → Seen
points ds = answered (length ds ∷ []) (flat_map point_octets ds ∷ [])

-- one point: its mark and its number, which no buffer takes
abbrev pub point : DecodedValue → Seen
point d = answered (mark_of d ∷ twos_complement (held_by d) ∷ []) []

abbrev pub levels : List ℕ → Seen
levels xs = answered (length xs ∷ []) (flat_map level_octets xs ∷ [])

-- four numbers each
abbrev pub group : ℕ → ℕ → ℕ → ℕ → List ℕ
group start count least width = start ∷ count ∷ least ∷ width ∷ []

-- template numbers, payload and groups
abbrev pub packs : List ℕ → List ℕ → List (List ℕ) → Seen
packs template payload groups =
    answered (template ++ (length payload ∷ []))
    (flat_map in_fours groups ∷ payload ∷ in_fours (template ++ (length groups ∷ length payload ∷ [])) ∷ [])

-- ---- what operations show

abbrev pub reading_in : List ℕ → ℕ → ℕ → ℕ → ℕ → Seen
reading_in octets start width count room =
    let r = read_field octets start width count (lent room) in
    record { number = answer_number r.answer; answers = []; left = r.buffer ∷ [] }

abbrev pub reading : List ℕ → ℕ → ℕ → ℕ → Seen
reading octets start width count = reading_in octets start width count count

abbrev span_answered : Result OctetPlace Refusal → List ℕ
span_answered (Ok octets) = octets.0 ∷ []
span_answered (Err r) = []

abbrev stores : Left (Result OctetPlace Refusal) → Seen
stores r = record { number = answer_number r.answer; answers = span_answered r.answer; left = r.buffer ∷ [] }

abbrev pub writing : List ℕ → ℕ → ℕ → ℕ → Seen
writing xs start width octets = stores (write_field xs start width (lent octets))

-- missing management, then the numbers as they are listed
abbrev pub template : ℕ → ℕ → ℕ → ℕ → ℕ → ℕ → ℕ → ℕ → ℕ → Template
template management width = template_by width 1 management

abbrev count_of : Result ℕ Refusal → List ℕ
count_of (Ok count) = count ∷ []
count_of (Err r) = []

abbrev pub unpacks : Left (Result ℕ Refusal) → Seen
unpacks r = record { number = answer_number r.answer; answers = count_of r.answer; left = r.buffer ∷ [] }

-- in so many lent octets
abbrev pub unpacking_in : Template → ℕ → List ℕ → ℕ → Seen
unpacking_in t declared payload room = unpacks (unpack52 t declared payload (lent room))

abbrev pub unpacking : Template → ℕ → List ℕ → Seen
unpacking t declared payload = unpacking_in t declared payload (declared * point_size)

abbrev pub restoring_in : ℕ → ℕ → Template → ℕ → List ℕ → ℕ → Seen
restoring_in order octets t declared payload room =
    unpacks (unpack53 t (record { order = order; octets = octets }) declared payload (lent room))

abbrev pub restoring : ℕ → ℕ → Template → ℕ → List ℕ → Seen
restoring order octets t declared payload = restoring_in order octets t declared payload (declared * point_size)

-- Section 5: read into so many lent octets, written into so many, and unpacked by
abbrev pub reading_section5 : List ℕ → ℕ → Seen
reading_section5 section5 room =
    let r = read_section5 section5 (lent room) in
    record { number = answer_number r.answer; answers = []; left = r.buffer ∷ [] }

abbrev pub writing_section5 : List ℕ → ℕ → Seen
writing_section5 numbers room = stores (write_section5 numbers (lent room))

abbrev pub unpacking_section5 : List ℕ → List ℕ → ℕ → Seen
unpacking_section5 section5 payload room = unpacks (unpack_section5 section5 payload (lent room))

-- the point at a place of the list
abbrev pub picks : Result DecodedValue Refusal → Seen
picks (Ok d) = point d
picks (Err r) = refused (refusal_number r) []

abbrev pub picking : ℕ → Template → ℕ → List ℕ → Seen
picking place t declared payload = picks (point52 place t declared payload)

abbrev pub picking_section5 : ℕ → List ℕ → List ℕ → Seen
picking_section5 place section5 payload = picks (point_section5 place section5 payload)

-- where the parts begin, where the values end, and how many points there are
abbrev pub locates : Result Located Refusal → Seen
locates (Ok l) =
    let p = l.places in
    answered (p.references.0 ∷ p.widths.0 ∷ p.lengths.0 ∷ p.values.0 ∷ p.end.0 ∷ l.points ∷ []) []
locates (Err r) = refused (refusal_number r) []

abbrev pub unrolls : Left (Result ℕ Refusal) → Seen
unrolls r = record { number = answer_number r.answer; answers = count_of r.answer; left = r.buffer ∷ [] }

abbrev pub unrolling_in : ℕ → ℕ → ℕ → List ℕ → ℕ → Seen
unrolling_in b M declared payload room = unrolls (run_length b M declared payload (lent room))

abbrev pub unrolling : ℕ → ℕ → ℕ → List ℕ → Seen
unrolling b M declared payload = unrolling_in b M declared payload (declared * level_size)

-- levels, written into so many lent octets
abbrev pub writing_levels : ℕ → ℕ → List ℕ → ℕ → Seen
writing_levels b M levels room = stores (write_run_length b M levels (lent room))

-- in so many lent numbers
abbrev pub grouping : ℕ → List ℕ → ℕ → Seen
grouping k xs room =
    let r = group_numbers_of k xs (lent room) in
    record { number = answer_number r.answer; answers = count_of r.answer; left = r.buffer ∷ [] }

abbrev packed_answers : Result Packed Refusal → List ℕ
packed_answers (Ok p) = template_numbers p.template ++ (p.octets.0 ∷ [])
packed_answers (Err r) = []

-- what no call hands over: splitting method, missing management and the missing values
abbrev pub kind_numbers : Packing → List ℕ
kind_numbers p = p.template.splitting ∷ p.template.management ∷ missing_value ∷ []

-- room for g groups, n octets of payload and so many of the summary
abbrev pub packing_in : ℕ → List ℕ → ℕ → ℕ → ℕ → Seen
packing_in k xs g n room =
    let r = pack k xs (lent (g * group_size)) (lent n) (lent room) in
    record {
      number = answer_number r.answer;
      answers = packed_answers r.answer;
      left = r.groups ∷ r.payload ∷ r.summary ∷ [];
    }

abbrev pub packing : ℕ → List ℕ → ℕ → ℕ → Seen
packing k xs g n = packing_in k xs g n summary_size
