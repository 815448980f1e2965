-- The claims of document 02, No. 1, by one argument over rows that cover. Assumes nothing.
use mathlib.Core.Path.{◌≡◌, refl, sym, ap, ◌∙◌}
use mathlib.Core.Bool.{Bool, true, false, cond}
use mathlib.Core.List.{List, ◌++◌, map}
use Prim.Native.Nat.{ℕ, ◌-◌, ◌*◌, ◌^◌, ◌≤◌, ◌<◌}
use native.Mathlib.Omega.{arith}
use borrow.Author.Tests.{lt-leb, ltb-false}
use lib.Dec.{eqb}
use lib.ListN.{length, get_or, take, drop}
use lib.Seq.{take_all, get_or-take}
use Rattle.format.specs.Lists.{listed, any_of, whole_ones, ◌over◌}
use Rattle.format.specs.Bits.{number_at}
use Rattle.format.specs.Layout.{big_endian, number_size, numbers_in, in_fours}
use Rattle.format.specs.Refusals.{Row as Test, first, room_refusals, Left, left, answer_number}
use Rattle.format.specs.Section5.{row, table, section_size, field_count, rows_of, Field, field, numbers_of, field_in, fields_in, fields_of, laid, at, head_of, named_of, wrong_head, head_refusals, too_large, field_refusals, read_section5, write_section5, named_by}
use Rattle.format.specs.declared.Row.{Row}
use Rattle.format.specs.declared.Head.{Head}
use Rattle.format.specs.declared.OctetPlace.{OctetPlace}
use Rattle.format.specs.declared.Named.{Named}
use Rattle.laws.specs.First.{Clear, clears, clear-row, among, passed, tests, refusal-some}
use Rattle.laws.specs.Lists.{listed-front, listed-ext, listed-map, map-listed, length-map, map_at, any-not, length_over}
use Rattle.laws.specs.Bits.{number_lt, number-below, bit-lt}
use Rattle.laws.specs.Stores.{octet-power, length-flat, number-listed}
use Rattle.laws.specs.Groups.{four-each, number-read-back}
use Rattle.laws.specs.Section5.{row_of, length-laid, fields_back, octets-back, either-template, covered, rows-length, fields-few, Right, right-head, head-right}
use Rattle.section5.specs.Fields.{written_by}
use Rattle.section5.specs.Claims.{template_of_numbers, FieldsBack, OctetsBack, NumberOne}
use Rattle.section5.proofs.Rows.{in_table}
use Rattle.section5.proofs.Writing.{with-head, numbers-length}
use Rattle.format.specs.declared.Refusal.{Refusal}
use Rattle.std.specs.declared.result.Result.{Result}
use Rattle.std.specs.declared.result.Result.TheVariants.{Ok, Err}

-- the two answers for a head
abbrev named_with : List ℕ → Head → Result Named Refusal
named_with section5 head = first Err (head_refusals (length section5) (section_size head.template) head) (Ok (named_of (fields_in table section5)))

abbrev read_with : List ℕ → List ℕ → Head → Left (Result (Unit {0}) Refusal)
read_with section5 lent head =
    first (λ r. left (Err r) lent)
    (head_refusals (length section5) (section_size head.template) head ++ room_refusals number_size lent (field_count head.template))
    (left (Ok tt) (in_fours (numbers_of (fields_in (rows_of head.template) section5)) over lent))

-- ---- the head stands in rows that both templates have

head-of-octets : (section5 : List ℕ) (template : ℕ) → head_of (fields_in (rows_of template) section5) ≡ head_of (fields_in table section5)
unfolding table at
head-of-octets section5 = either-template (λ count size. head_of (fields_in (take count table) section5) ≡ head_of (fields_in table section5)) refl refl

head-of-numbers : (numbers : List ℕ) (template : ℕ) → head_of (fields_of (rows_of template) numbers) ≡ head_of (fields_of table numbers)
unfolding table at listed
head-of-numbers numbers = either-template (λ count size. head_of (fields_of (take count table) numbers) ≡ head_of (fields_of table numbers)) refl refl

-- so does all that they name: the last two rows matter to 5.3 alone
named-of-octets : (template : ℕ) (section5 : List ℕ) → (head_of (fields_in table section5)).template ≡ template
    → named_of (fields_in (rows_of template) section5) ≡ named_of (fields_in table section5)
unfolding field_count table at
named-of-octets template section5 e = by-test (eqb template 3) (ap (λ (t : ℕ). eqb t 3) e)
  where
    by-test : (b : Bool) → eqb (head_of (fields_in table section5)).template 3 ≡ b → named_of (fields_in (take (cond b 22 20) table) section5) ≡ named_of (fields_in table section5)
    by-test true t = refl
    by-test false t = rw t

named-of-numbers : (numbers : List ℕ) → named_of (fields_of (rows_of (template_of_numbers numbers)) numbers) ≡ named_of (fields_of table numbers)
unfolding field_count table at listed
named-of-numbers numbers = by-test (eqb (template_of_numbers numbers) 3) refl
  where
    by-test : (b : Bool) → eqb (template_of_numbers numbers) 3 ≡ b → named_of (fields_of (take (cond b 22 20) table) numbers) ≡ named_of (fields_of table numbers)
    by-test true t = refl
    by-test false t = rw t

-- ---- fields of numbers

module _ (rows : List Row) (numbers : List ℕ) where
  rows-of-fields : map row_of (fields_of rows numbers) ≡ rows
  rows-of-fields =
      map-listed row_of (length rows) (λ k. field (get_or rows k (row 0 0)) (get_or numbers k 0))
      ∙ listed-front rows (row 0 0) (length rows) (omega arith) ∙ take_all (length rows) rows (omega arith)

  numbers-of-fields : length rows ≤ length numbers → numbers_of (fields_of rows numbers) ≡ take (length rows) numbers
  numbers-of-fields h =
      map-listed (λ f. f.number) (length rows) (λ k. field (get_or rows k (row 0 0)) (get_or numbers k 0)) ∙ listed-front numbers 0 (length rows) h

-- ---- reading what was written

abbrev spans : Left (Result OctetPlace Refusal) → ℕ
spans x = answer_number x.answer

abbrev fetches : Left (Result (Unit {0}) Refusal) → ℕ
fetches x = answer_number x.answer

module _ (numbers lent section5 : List ℕ) (span : OctetPlace) (e : left (Ok span) section5 ≡ write_section5 numbers lent) where
  abbrev head : Head
  head = head_of (fields_of table numbers)

  abbrev template : ℕ
  template = head.template

  abbrev fields : List Field
  fields = fields_of (rows_of template) numbers

  abbrev refusals : List Test
  refusals = head_refusals (length numbers) (field_count template) head ++ field_refusals fields (section_size template) lent

  accepted : Clear refusals × ◌≡◌ {A = Left (Result OctetPlace Refusal)} (left (Ok span) section5) (left (Ok (record { 0 = section_size template })) (laid fields lent))
  unfolding write_section5
  accepted = passed (λ r. left (Err r) lent) refusals _ e (λ r d. absurd (omega (arith, ap spans d, refusal-some r)))

  written_is : section5 ≡ laid fields lent
  written_is = ap (λ (x : Left (Result OctetPlace Refusal)). x.buffer) accepted.1

  right : Right (length numbers) (field_count template) head
  right = right-head (length numbers) (field_count template) head (clear-row refusals accepted.0 (search among))

  fit : any_of too_large fields ≡ false
  fit = clear-row refusals accepted.0 (search among)

  room : section_size template ≤ length lent
  room = ltb-false (length lent) (section_size template) (clear-row refusals accepted.0 (search among))

  same_rows : map row_of fields ≡ rows_of template
  same_rows = rows-of-fields (rows_of template) numbers

  back : fields_in (rows_of template) section5 ≡ fields
  back =
      ap (fields_in (rows_of template)) written_is ∙ ap (λ (rows : List Row). fields_in rows (laid fields lent)) (sym same_rows)
      ∙ fields_back fields (rw same_rows (covered template)) (field (row 0 0) 0) lent room fit

  same_head : head_of (fields_in table section5) ≡ head
  same_head = sym (head-of-octets section5 template) ∙ ap (λ (fs : List Field). head_of fs) back ∙ head-of-numbers numbers template

  good : wrong_head (length section5) (section_size template) head ≡ false
  good =
      head-right (length section5) (section_size template) head
      (record { enough = omega (arith, room, ap length written_is, length-laid fields lent); length = right.length; number = right.number; known = right.known })

  read_back : (out : List ℕ) → field_count template * number_size ≤ length out → left (Ok tt) (in_fours (take (field_count template) numbers) over out) ≡ read_section5 section5 out
  unfolding read_section5
  read_back out h =
      let long : length (rows_of template) ≡ field_count template = rows-length template in
      let same : numbers_of (fields_in (rows_of template) section5) ≡ take (field_count template) numbers =
      ap numbers_of back ∙ numbers-of-fields (rows_of template) numbers (omega (arith, right.enough)) ∙ ap (λ (n : ℕ). take n numbers) long in
      ap (λ (xs : List ℕ). left (Ok tt) (in_fours xs over out)) (sym same)
      ∙ clears (λ r. left (Err r) out) (head_refusals (length section5) (section_size template) head ++ room_refusals number_size out (field_count template)) _ (good, (omega (arith, tests), tt))
      ∙ ap (read_with section5 out) (sym same_head)

  named_back : named_by section5 ≡ Ok (named_of (fields_of table numbers))
  unfolding named_by
  named_back =
      ap (named_with section5) same_head ∙ sym (clears Err (head_refusals (length section5) (section_size template) head) _ (good, tt))
      ∙ ap Ok (sym (named-of-octets template section5 (ap (λ (x : Head). x.template) same_head)) ∙ ap (λ (fs : List Field). named_of fs) back ∙ named-of-numbers numbers)

fields-return : FieldsBack
fields-return numbers lent section5 fields span e h = read_back numbers lent section5 span e fields h

-- ---- writing what was read

module _ (section5 lent kept : List ℕ) (small : (i : ℕ) → get_or section5 i 0 < 256) (e : left (Ok tt) kept ≡ read_section5 section5 lent) where
  abbrev head_read : Head
  head_read = head_of (fields_in table section5)

  abbrev template_read : ℕ
  template_read = head_read.template

  abbrev fields_read : List Field
  fields_read = fields_in (rows_of template_read) section5

  abbrev read_refusals : List Test
  read_refusals = head_refusals (length section5) (section_size template_read) head_read ++ room_refusals number_size lent (field_count template_read)

  read-accepted : Clear read_refusals × ◌≡◌ {A = Left (Result (Unit {0}) Refusal)} (left (Ok tt) kept) (left (Ok tt) (in_fours (numbers_of fields_read) over lent))
  unfolding read_section5
  read-accepted = passed (λ r. left (Err r) lent) read_refusals _ e (λ r d. absurd (omega (arith, ap fetches d, refusal-some r)))

  kept-is : kept ≡ in_fours (numbers_of fields_read) over lent
  kept-is = ap (λ (x : Left (Result (Unit {0}) Refusal)). x.buffer) read-accepted.1

  right-read : Right (length section5) (section_size template_read) head_read
  right-read = right-head (length section5) (section_size template_read) head_read (clear-row read_refusals read-accepted.0 (search among))

  room-read : field_count template_read ≤ whole_ones number_size lent
  room-read = ltb-false (whole_ones number_size lent) (field_count template_read) (clear-row read_refusals read-accepted.0 (search among))

  -- a field that is read fits its octets, and four
  field_fits : (f : Field) (r : Row) → f ≡ field_in section5 r → too_large f ≡ false
  field_fits f r ef =
      rw ef (lt-leb (256 ^ r.size) (field_in section5 r).number (rw (octet-power r.size) at (number_lt (bit-lt 8 section5) ((r.first - 1) * 8) (r.size * 8))))

  long-fields : length fields_read ≡ field_count template_read
  long-fields = length-map (field_in section5) (rows_of template_read) ∙ rows-length template_read

  field_at : (k : ℕ) → k < field_count template_read → get_or fields_read k (field (row 0 0) 0) ≡ field_in section5 (get_or table k (row 0 0))
  field_at k l =
      map_at (field_in section5) (rows_of template_read) (row 0 0) (field (row 0 0) 0) k (omega (arith, rows-length template_read))
      ∙ ap (field_in section5) (get_or-take (field_count template_read) table k (row 0 0) l)

  none-large : any_of too_large fields_read ≡ false
  none-large = any-not too_large fields_read (field (row 0 0) 0) (λ k l. field_fits _ (get_or table k (row 0 0)) (field_at k (omega (arith, long-fields))))

  -- the numbers that are kept are theirs
  abbrev numbers_read : List ℕ
  numbers_read = numbers_of fields_read

  long-numbers : length numbers_read ≡ field_count template_read
  long-numbers = length-map (λ f. f.number) fields_read ∙ long-fields

  number-at : (k : ℕ) → k < field_count template_read → get_or numbers_read k 0 ≡ (field_in section5 (get_or table k (row 0 0))).number
  number-at k l = map_at (λ f. f.number) fields_read (field (row 0 0) 0) 0 k (omega (arith, long-fields)) ∙ ap (λ (f : Field). f.number) (field_at k l)

  long_kept : length kept ≡ length lent
  long_kept =
      let octets = length-flat (big_endian number_size) number_size four-each numbers_read in
      ap length kept-is ∙ length_over (in_fours numbers_read) lent (omega (arith, long-numbers, room-read))

  number-kept : (k : ℕ) → k < field_count template_read → get_or (numbers_in kept) k 0 ≡ (field_in section5 (get_or table k (row 0 0))).number
  number-kept k l =
      let r = get_or table k (row 0 0) in
      let few : field_count template_read ≤ 22 = fields-few template_read in
      let below : get_or numbers_read k 0 < 2 ^ 32 = rw (number-at k l) (number-below (bit-lt 8 section5) ((r.first - 1) * 8) (r.size * 8) 32 (omega (arith, (in_table k (omega arith)).small))) in
      sym (number-listed kept k (omega (arith, room-read, long_kept))) ∙ ap (λ (o : List ℕ). number_at o (k * 32) 32) kept-is
      ∙ number-read-back (drop (length (in_fours numbers_read)) lent) numbers_read k (omega (arith, long-numbers)) below ∙ number-at k l

  fields-kept : fields_of (rows_of template_read) (numbers_in kept) ≡ fields_read
  fields-kept =
      listed-ext (length (rows_of template_read)) _ _ (λ k l. whole k (omega (arith, rows-length template_read)))
      ∙ listed-map (field_in section5) (rows_of template_read) (row 0 0) refl
    where
      whole : (k : ℕ) → k < field_count template_read → field (get_or (rows_of template_read) k (row 0 0)) (get_or (numbers_in kept) k 0) ≡ field_in section5 (get_or (rows_of template_read) k (row 0 0))
      whole k l = rw (get_or-take (field_count template_read) table k (row 0 0) l, number-kept k l)

  head-kept : head_of (fields_of table (numbers_in kept)) ≡ head_read
  head-kept = sym (head-of-numbers (numbers_in kept) template_read) ∙ ap (λ (fs : List Field). head_of fs) fields-kept ∙ head-of-octets section5 template_read

  write-back : (octets : List ℕ) → section_size template_read ≤ length octets
      → left (Ok (record { 0 = section_size template_read })) (take (section_size template_read) section5 over octets) ≡ write_section5 (numbers_in kept) octets
  unfolding written_by
  write-back octets h =
      let numbers = numbers_in kept in
      let fields = fields_of (rows_of template_read) numbers in
      let many : field_count template_read ≤ length numbers = omega (arith, room-read, long_kept, numbers-length kept octets) in
      let good = head-right (length numbers) (field_count template_read) head_read (record { enough = many; length = right-read.length; number = right-read.number; known = right-read.known }) in
      let fits : any_of too_large fields ≡ false = rw fields-kept none-large in
      let same : take (section_size template_read) section5 over octets ≡ laid fields octets = sym (rw fields-kept (octets-back (covered template_read) section5 octets small right-read.enough h)) in
      ap (λ (l : List ℕ). left (Ok (record { 0 = section_size template_read })) l) same
      ∙ clears (λ r. left (Err r) octets) (field_refusals fields (section_size template_read) octets) _ (fits, (omega (arith, tests), tt))
      ∙ clears (λ r. left (Err r) octets) (head_refusals (length numbers) (field_count template_read) head_read) _ (good, tt)
      ∙ with-head kept octets (sym head-kept)

octets-return : OctetsBack
octets-return section5 lent fields octets small e h = write-back section5 lent fields small e octets h

pub number-one : NumberOne
number-one = (covered, fields-return, octets-return, named_back)
