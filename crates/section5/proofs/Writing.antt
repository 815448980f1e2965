-- Writing fields, row by row. Assumes nothing.
use mathlib.Core.Path.{◌≡◌, refl, sym, ap, ap₂, ◌∙◌}
use mathlib.Core.Bool.{Bool, true, false, ◌||◌}
use mathlib.Core.List.{List, [], ◌∷◌, ◌++◌}
use native.Mathlib.Nat.{add-zero, zero-add}
use Rattle.std.specs.List.{list_any, range_with_len}
use Prim.Native.Nat.{ℕ, zero, suc, ◌+◌, ◌-◌, ◌*◌, ◌/◌, ◌^◌, ◌≤◌, ◌<◌}
use native.Mathlib.Numerals.{add-one}
use native.Mathlib.Omega.{arith}
use borrow.Author.Tests.{lt-ltb, le-ltb}
use lib.Dec.{leb, ltb}
use lib.ListN.{length, get_or, take}
use lib.Seq.{sets, take_all, take-suc, get_or-take}
use Rattle.format.specs.Lists.{listed, any_of, whole_ones}
use Rattle.format.specs.Bits.{number_at}
use Rattle.format.specs.Layout.{number_size, numbers_in, big_endian}
use Rattle.format.specs.Section5.{row, table, section_size, field_count, rows_of, Field, field, fields_of, laid, head_of, wrong_head, head_refusals, field_refusals, too_large, write_section5}
use Rattle.format.specs.Refusals.{first, Left, left}
use Rattle.format.specs.declared.OctetPlace.{OctetPlace}
use Rattle.format.specs.declared.Refusal.{Refusal}
use Rattle.format.specs.declared.Refusal.TheVariants.{Room, Numbers, Section5}
use Rattle.format.specs.declared.Row.{Row}
use Rattle.format.specs.declared.Head.{Head}
use Rattle.laws.specs.Lists.{length-listed, get_or-listed}
use Rattle.laws.specs.First.{first-joined}
use Rattle.laws.specs.Stores.{octet-power, number-listed}
use Rattle.laws.specs.Section5.{length-laid, laid-append, row_within, covered, rows-length, fields-some}
use Rattle.section5.proofs.Rows.{in_table, wrong-lent, head-is}
use Rattle.section5.specs.Fields.{InTable, lent_field, Writable, written_by}
use Rattle.section5.specs.Kind.{number, Counted, Headed}
use Rattle.section5.specs.declared.kind.Kind.{Kind}
use Rattle.std.specs.declared.result.Result.{Result}
use Rattle.std.specs.declared.result.Result.TheVariants.{Ok, Err}

-- the fields of the numbers that are lent for a template
abbrev pub lent_fields : List ℕ → ℕ → List Field
lent_fields fields template = fields_of (rows_of template) (numbers_in fields)

-- one of them is tested, and one is written
module _ (fields : List ℕ) {k number : ℕ} {r : Row} (there : k < whole_ones number_size fields) (i : InTable k r) (en : number ≡ number_at fields (k * 32) 32) where
  field_is : field r number ≡ lent_field fields k
  field_is = rw (i.is, en, number-listed fields k there)

  pub large_is : {power : ℕ} → power ≡ 2 ^ (r.size * 8) → leb power number ≡ too_large (lent_field fields k)
  large_is e = rw (e, octet-power r.size) (ap too_large field_is)

  pub written_one : (lent : List ℕ) {now : List ℕ} → now ≡ sets lent (r.first - 1) (big_endian r.size number) → now ≡ laid (lent_field fields k ∷ []) lent
  unfolding laid
  written_one lent e = e ∙ ap (λ (f : Field). laid (f ∷ []) lent) field_is

-- whether one of those that are listed is, asked by their numbers
any-listed : {A : Type 0} (p : A → Bool) (g : ℕ → A) (test : ℕ → Bool) (a n : ℕ) → ((k : ℕ) → k < n → test (a + k) ≡ p (g k)) → list_any test (range_with_len a n) ≡ any_of p (listed n g)
unfolding any_of listed
any-listed p g test a zero h = refl
any-listed p g test a (suc n) h =
    ap₂ ◌||◌ (rw add-zero at (h 0 (omega arith)))
    (any-listed p (λ i. g (suc i)) test (a + 1) n (λ k l. (let e : a + 1 + k ≡ a + suc k = omega arith in ap test e ∙ h (suc k) (omega arith))))

-- the first k are written
pub record Written (fields : List ℕ) (template : ℕ) (lent now : List ℕ) (k : ℕ) : Type 0 where
  pub there : now ≡ laid (take k (lent_fields fields template)) lent
  pub long : length now ≡ length lent

module _ (fields : List ℕ) {template count : ℕ} (c : Counted template count) (enough : field_count template ≤ whole_ones number_size fields) where
  rows-counted : length (rows_of template) ≡ count
  rows-counted = rows-length template ∙ sym c.is

  fields-length : length (lent_fields fields template) ≡ count
  fields-length = length-listed (length (rows_of template)) _ ∙ rows-counted

  row_same : {k : ℕ} → k < count → get_or (rows_of template) k (row 0 0) ≡ get_or table k (row 0 0)
  row_same {k} l = get_or-take (field_count template) table k (row 0 0) (omega (arith, c.is))

  pub any-large : list_any (λ k. too_large (lent_field fields k)) (range_with_len 0 count) ≡ any_of too_large (lent_fields fields template)
  any-large =
      let lent = λ (k : ℕ). field (get_or (rows_of template) k (row 0 0)) (get_or (numbers_in fields) k 0) in
      any-listed too_large lent (λ k. too_large (lent_field fields k)) 0 count
      (λ k l. rw zero-add (ap (λ (r : Row). too_large (field r (get_or (numbers_in fields) k 0))) (sym (row_same l))))
      ∙ ap (λ (n : ℕ). any_of too_large (listed n lent)) (sym rows-counted)

  pub written_none : (lent : List ℕ) → Written fields template lent lent 0
  unfolding laid
  written_none lent = record { there = refl; long = refl }

  -- field k
  module _ {k : ℕ} (l : k < count) where
    pub lent-there : (k < 22) × (k < whole_ones number_size fields)
    lent-there = (omega (arith, c.few), omega (arith, c.is))

    field_at : get_or (lent_fields fields template) k (field (row 0 0) 0) ≡ lent_field fields k
    field_at =
        get_or-listed (length (rows_of template)) (λ k. field (get_or (rows_of template) k (row 0 0)) (get_or (numbers_in fields) k 0)) (field (row 0 0) 0) k (omega (arith, rows-counted))
        ∙ rw (row_same l)

    -- its octets are there
    pub row_room : {lent now : List ℕ} → Written fields template lent now k → section_size template ≤ length lent → Writable fields k now
    row_room {lent} {now} s h =
        let some = (in_table k lent-there.0).some in
        let within = rw (row_same l) at (row_within (covered template) (row 0 0) k (omega (arith, rows-counted))) some in
        record { among = lent-there.0; number = lent-there.1; room = omega (arith, within.1, s.long) }

    pub written-more : {lent now next : List ℕ} → Written fields template lent now k → next ≡ laid (lent_field fields k ∷ []) now
        → Written fields template lent next (k + 1)
    written-more {lent} {now} {next} s e =
        let fs = lent_fields fields template in
        let one : take (k + 1) fs ≡ take k fs ++ (lent_field fields k ∷ []) = rw (add-one k, ← field_at) (take-suc fs k (field (row 0 0) 0) (omega (arith, fields-length))) in
        record {
          there = e ∙ rw (s.there, one, laid-append (take k fs) (lent_field fields k ∷ []) lent);
          long = ap length e ∙ length-laid (lent_field fields k ∷ []) now ∙ s.long;
        }

  pub written_all : {lent now : List ℕ} {k : ℕ} → Written fields template lent now k → count ≤ k → now ≡ laid (lent_fields fields template) lent
  written_all {k = k} s h = rw (take_all k (lent_fields fields template) (omega (arith, fields-length))) at s.there

-- ---- what writing answers

module _ (fields lent : List ℕ) (template : ℕ) {large : Bool} (el : large ≡ any_of too_large (lent_fields fields template)) where
  pub checked-large : large ≡ true → left (Err Numbers) lent ≡ written_by template (numbers_in fields) lent
  unfolding first written_by
  checked-large e = rw (← el, e)

  module _ (fit : large ≡ false) {size : ℕ} (es : size ≡ section_size template) where
    pub checked-room : length lent < size → left (Err Room) lent ≡ written_by template (numbers_in fields) lent
    unfolding first written_by
    checked-room h = rw (← el, fit, ← es, lt-ltb (length lent) size h)

    pub checked-done : size ≤ length lent → {now : List ℕ} → now ≡ laid (lent_fields fields template) lent
        → left (Ok (record { 0 = size })) now ≡ written_by template (numbers_in fields) lent
    unfolding first written_by
    checked-done h e = rw (← el, fit, ← es, le-ltb (length lent) size h, e)

abbrev pub write_with : List ℕ → List ℕ → Head → Left (Result OctetPlace Refusal)
write_with numbers lent head =
    first (λ r. left (Err r) lent) (head_refusals (length numbers) (field_count head.template) head) (written_by head.template numbers lent)

module _ (fields lent : List ℕ) where
  pub numbers-length : length (numbers_in fields) ≡ whole_ones number_size fields
  numbers-length = length-listed (whole_ones number_size fields) _

  pub with-head : {head : Head} → head ≡ head_of (fields_of table (numbers_in fields)) → write_with (numbers_in fields) lent head ≡ write_section5 (numbers_in fields) lent
  unfolding write_section5 written_by
  with-head {head} e =
      ap (write_with (numbers_in fields) lent) e
      ∙ sym (first-joined (λ r. left (Err r) lent) (head_refusals (length (numbers_in fields)) (field_count h.template) h) (field_refusals (lent_fields fields h.template) (section_size h.template) lent) _)
    where
      h : Head
      h = head_of (fields_of table (numbers_in fields))

  pub write-few : length fields / number_size < 20 → left (Err Section5) lent ≡ write_section5 (numbers_in fields) lent
  unfolding first
  write-few l =
      let head = head_of (fields_of table (numbers_in fields)) in
      rw (← with-head refl, wrong-lent head (length (numbers_in fields)) (field_count head.template) (omega (arith, numbers-length, fields-some head.template)))

  module _ {a b c : ℕ} (enough : 20 ≤ length fields / number_size) (ea : a ≡ number_at fields (0 * 32) 32) (eb : b ≡ number_at fields (1 * 32) 32) (ec : c ≡ number_at fields (3 * 32) 32) where
    abbrev head : Head
    head = record { length = a; number = b; template = c }

    head-lent : head ≡ head_of (fields_of table (numbers_in fields))
    head-lent =
        rw (ea, eb, ec, number-listed fields 0 (omega arith), number-listed fields 1 (omega arith), number-listed fields 3 (omega arith)) (head-is (numbers_in fields))

    pub write-wrong : {refusal : Refusal} → Headed (record { length = a; number = b; template = c }) (Err refusal) → left (Err refusal) lent ≡ write_section5 (numbers_in fields) lent
    unfolding first
    write-wrong h = rw (← with-head head-lent, h.1 (length (numbers_in fields)) (field_count c), h.0)

    module _ (kind : Kind) (h : Headed (record { length = a; number = b; template = c }) (Ok kind)) {count : ℕ} (k : Counted (number kind) count) where
      wrong-is : wrong_head (length (numbers_in fields)) (field_count c) head ≡ ltb (length fields / number_size) count
      wrong-is = h.1 (length (numbers_in fields)) (field_count c) ∙ rw (numbers-length, ← h.0, ← k.is)

      pub write-short : length fields / number_size < count → left (Err Section5) lent ≡ write_section5 (numbers_in fields) lent
      unfolding first
      write-short l = rw (← with-head head-lent, wrong-is, lt-ltb (length fields / number_size) count l)

      pub write-rest : count ≤ length fields / number_size → {answer : Result OctetPlace Refusal} {now : List ℕ} → left answer now ≡ written_by (number kind) (numbers_in fields) lent
          → left answer now ≡ write_section5 (numbers_in fields) lent
      unfolding first
      write-rest l e = rw (← with-head head-lent, wrong-is, le-ltb (length fields / number_size) count l, ← h.0) e
