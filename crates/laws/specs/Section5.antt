-- Section 5's fields in their octets: what rows that cover each octet once give. Assumes nothing.
use Rattle.std.specs.Prelude.{◌≡◌, refl, Bool, true, false, cond, ◌||◌, ◌&&◌, List, [], ◌∷◌, ◌++◌, map, ℕ, zero, suc, ◌+◌, ◌-◌, ◌*◌, ◌/◌, ◌%◌, ◌^◌, ◌≤◌, ◌<◌, eqb, leb, get_or, take, drop}
use Rattle.std.proofs.Common.{sym, ap, ◌∙◌, arith, ext_get_or, length-take-le, get_or-take, get_or-drop, get_or-append-add}
use Rattle.std.proofs.Math.Bool.{not, and-false, and-eq-true_iff}
use borrow.Author.Tests.{ltb-true, ltb-false, leb-true, leb-false, lt-ltb, le-ltb, le-leb, eq-eqb}
use Rattle.std.proofs.Math.Dec.{ltb}
use Rattle.std.proofs.Math.ListN.{length, get_or-append}
use Rattle.std.proofs.lemmas.List.Edits.{sets}
use Rattle.std.proofs.Math.Seq.{length-sets}
use Rattle.format.specs.Lists.{listed, any_of, ◌over◌}
use Rattle.format.specs.Bits.{bit_in, number_of, number_at}
use Rattle.format.specs.Layout.{big_endian}
use Rattle.format.specs.Section5.{row, table, rows_of, section_size, field_count, holds, holders, Covers, Field, field, field_in, fields_in, laid, wrong_head, too_large}
use Rattle.format.specs.declared.Row.{Row}
use Rattle.format.specs.declared.Head.{Head}
use Rattle.laws.specs.Lists.{length-listed, get_or-listed, length-map, map_at, any_none, either_left, either-right, length_over}
use Rattle.laws.specs.First.{not-equal-false}
use Rattle.laws.specs.Bits.{number-mid, bit-lt, octet}
use Rattle.laws.specs.Stores.{sets-other, sets-there, octet-power, number-back}

-- ---- rows that hold an octet

module _ (r : Row) (octet : ℕ) where
  holds-it : r.first ≤ octet → octet < r.first + r.size → holds r octet ≡ true
  holds-it h l = rw (le-leb r.first octet h) (lt-ltb octet (r.first + r.size) l)

  held_first : holds r octet ≡ true → r.first ≤ octet
  held_first e = leb-true r.first octet ((and-eq-true_iff (leb r.first octet) (ltb octet (r.first + r.size))).0 e).0

  held-last : holds r octet ≡ true → octet < r.first + r.size
  held-last e = ltb-true octet (r.first + r.size) ((and-eq-true_iff (leb r.first octet) (ltb octet (r.first + r.size))).0 e).1

holders-behind : (r : Row) (rows : List Row) (octet : ℕ) → holders rows octet ≤ holders (r ∷ rows) octet
unfolding holders
holders-behind r rows octet = omega arith

-- a row that holds it is one of its holders
held-some : (rows : List Row) (d : Row) (octet j : ℕ) → j < length rows → holds (get_or rows j d) octet ≡ true → 1 ≤ holders rows octet
unfolding holders
held-some [] d octet j l h = absurd (omega arith)
held-some (r ∷ rows) d octet zero l h = rw h (omega arith)
held-some (r ∷ rows) d octet (suc j) l h = omega (arith, held-some rows d octet j (omega arith) h)

-- and where there is a holder, a row holds it
record Holder (rows : List Row) (d : Row) (octet : ℕ) : Type 0 where
  pub place : ℕ
  pub among : place < length rows
  pub it : holds (get_or rows place d) octet ≡ true

holder-of : (rows : List Row) (d : Row) (octet : ℕ) → 1 ≤ holders rows octet → Holder rows d octet
unfolding holders
holder-of [] d octet h = absurd (omega arith)
holder-of (r ∷ rows) d octet h = by-test (holds r octet) refl (λ h. holder-of rows d octet h)
  where
    by-test : (b : Bool) → holds r octet ≡ b → (1 ≤ holders rows octet → Holder rows d octet) → Holder (r ∷ rows) d octet
    by-test true e rest = record { place = 0; among = omega arith; it = e }
    by-test false e rest =
        let later = rest (omega (arith, rw e at h)) in
        record { place = suc later.place; among = omega (arith, later.among); it = later.it }

-- a row that holds it adds one to its holders
adds-holder : (r : Row) (rows : List Row) (octet : ℕ) → r.first ≤ octet → octet < r.first + r.size → holders (r ∷ rows) octet ≡ suc (holders rows octet)
unfolding holders
adds-holder r rows octet a b = rw (holds-it r octet a b) (omega arith)

-- so that one which adds none does not hold it
not-held : (r : Row) (rows : List Row) (octet : ℕ) → holders (r ∷ rows) octet ≤ holders rows octet → r.first ≤ octet → octet < r.first + r.size → ⊥
not-held r rows octet h a b = omega (arith, adds-holder r rows octet a b)

-- where octet 0 is not held, a row begins at 1 or later
row-started : (r : Row) (rows : List Row) → holders (r ∷ rows) 0 ≡ 0 → 0 < r.size → 1 ≤ r.first
row-started r rows h s = by_first r.first (not-held r rows 0 (omega (arith, h)))
  where
    by_first : (first : ℕ) → (first ≤ 0 → 0 < first + r.size → ⊥) → 1 ≤ first
    by_first zero never = absurd (never (omega arith) (omega arith))
    by_first (suc first) never = omega arith

-- ---- fields in their octets

abbrev pub row_of : Field → Row
row_of f = f.row

-- octet i of a field's number
abbrev octet_of : Field → ℕ → ℕ
octet_of f i = f.number / 256 ^ (f.row.size - suc i) % 256

stored-size : (f : Field) → length (big_endian f.row.size f.number) ≡ f.row.size
stored-size f = length-listed f.row.size (octet_of f)

pub length-laid : (fields : List Field) (l : List ℕ) → length (laid fields l) ≡ length l
unfolding laid
length-laid [] l = refl
length-laid (f ∷ fields) l =
    let stored = big_endian f.row.size f.number in
    length-laid fields (sets l (f.row.first - 1) stored) ∙ length-sets l (f.row.first - 1) stored

pub laid-append : (fields more : List Field) (l : List ℕ) → laid (fields ++ more) l ≡ laid more (laid fields l)
unfolding laid
laid-append [] more l = refl
laid-append (f ∷ fields) more l = laid-append fields more (sets l (f.row.first - 1) (big_endian f.row.size f.number))

-- what is outside a row, in octets counted from 0
outside : (first size i : ℕ) → (first ≤ 0 → 0 < first + size → ⊥) → (first ≤ suc i → suc i < first + size → ⊥)
    → (k : ℕ) → k < size → first - 1 + k ≡ i → ⊥
outside zero size i low high k m c = low (omega arith) (omega arith)
outside (suc first) size i low high k m c = high (omega arith) (omega arith)

-- an octet that no row holds stays
laid-other : (fields : List Field) (l : List ℕ) (i : ℕ) → holders (map row_of fields) 0 ≡ 0 → holders (map row_of fields) (suc i) ≡ 0
    → get_or (laid fields l) i 0 ≡ get_or l i 0
unfolding laid
laid-other [] l i h e = refl
laid-other (f ∷ fields) l i h e =
    let rest = map row_of fields in
    let low = holders-behind f.row rest 0 in
    let high = holders-behind f.row rest (suc i) in
    let stored = big_endian f.row.size f.number in
    laid-other fields (sets l (f.row.first - 1) stored) i (omega arith) (omega arith)
    ∙ sets-other 0 l (f.row.first - 1) stored i (λ k m c. out k (rw (stored-size f) at m) c)
  where
    rest : List Row
    rest = map row_of fields

    out : (k : ℕ) → k < f.row.size → f.row.first - 1 + k ≡ i → ⊥
    out k m c =
        outside f.row.first f.row.size i
        (not-held f.row rest 0 (omega (arith, h))) (not-held f.row rest (suc i) (omega (arith, e))) k m c

-- an octet that one row alone holds is its field's
laid-held : (fields : List Field) (d : Field) (l : List ℕ) (j i : ℕ) → holders (map row_of fields) 0 ≡ 0
    → j < length fields → i < (get_or fields j d).row.size → holders (map row_of fields) ((get_or fields j d).row.first + i) ≡ 1
    → (get_or fields j d).row.first - 1 + (get_or fields j d).row.size ≤ length l
    → get_or (laid fields l) ((get_or fields j d).row.first - 1 + i) 0 ≡ octet_of (get_or fields j d) i
unfolding laid
laid-held [] d l j i h a b e r = absurd (omega arith)
laid-held (f ∷ fields) d l zero i h a b e r =
    let rest = map row_of fields in
    let at : ℕ = f.row.first - 1 in
    let stored = big_endian f.row.size f.number in
    let started = row-started f.row rest h (omega arith) in
    let place : suc (at + i) ≡ f.row.first + i = omega arith in
    let alone : holders rest (suc (at + i)) ≡ 0 = rw place (omega (arith, e, adds-holder f.row rest (f.row.first + i) (omega arith) (omega arith))) in
    laid-other fields (sets l at stored) (at + i) (omega (arith, h, holders-behind f.row rest 0)) alone
    ∙ sets-there 0 l at stored i (rw (stored-size f) b) (rw (stored-size f) r) ∙ get_or-listed f.row.size (octet_of f) 0 i b
laid-held (f ∷ fields) d l (suc j) i h a b e r =
    let rest = map row_of fields in
    let g = get_or fields j d in
    let at : ℕ = f.row.first - 1 in
    let stored = big_endian f.row.size f.number in
    let same : get_or rest j (row_of d) ≡ g.row = map_at row_of fields d (row_of d) j (omega arith) in
    let it : holds (get_or rest j (row_of d)) (g.row.first + i) ≡ true = rw same (holds-it g.row (g.row.first + i) (omega arith) (omega arith)) in
    let some = held-some rest (row_of d) (g.row.first + i) j (omega (arith, length-map row_of fields)) it in
    laid-held fields d (sets l at stored) j i (omega (arith, h, holders-behind f.row rest 0)) (omega arith) b
    (omega (arith, e, holders-behind f.row rest (g.row.first + i))) (rw (length-sets l at stored) r)

-- ---- rows that cover

at_most : (a b : ℕ) → (b < a → ⊥) → a ≤ b
at_most a b h = by-test (ltb b a) refl
  where
    by-test : (t : Bool) → ltb b a ≡ t → a ≤ b
    by-test true e = absurd (h (ltb-true b a e))
    by-test false e = ltb-false b a e

-- each octet of a row is one that is covered
module _ {rows : List Row} {n : ℕ} (c : Covers rows n) (d : Row) (j : ℕ) (l : j < length rows) where
  held-once : (i : ℕ) → i < (get_or rows j d).size → (1 ≤ (get_or rows j d).first + i) × ((get_or rows j d).first + i ≤ n)
  held-once i m =
      let r = get_or rows j d in
      let some = held-some rows d (r.first + i) j l (holds-it r (r.first + i) (omega arith) (omega arith)) in
      (at_most 1 (r.first + i) (λ b. absurd (omega (arith, some, zero_held (r.first + i) b))), at_most (r.first + i) n (λ b. omega (arith, some, c.beyond (r.first + i) b)))
    where
      zero_held : (octet : ℕ) → octet < 1 → holders rows octet ≡ 0
      zero_held zero b = c.before
      zero_held (suc octet) b = absurd (omega arith)

  pub row_within : 0 < (get_or rows j d).size → (1 ≤ (get_or rows j d).first) × ((get_or rows j d).first - 1 + (get_or rows j d).size ≤ n)
  row_within s =
      let r = get_or rows j d in
      (omega (arith, (held-once 0 s).0), omega (arith, (held-once (r.size - 1) (omega arith)).1, (held-once 0 s).0))

-- reading what was written: a field that its octets hold is read back
module _ (fields : List Field) {n : ℕ} (c : Covers (map row_of fields) n) (d : Field) (l : List ℕ) (room : n ≤ length l) where
  field_back : (j : ℕ) → j < length fields → too_large (get_or fields j d) ≡ false → field_in (laid fields l) (get_or fields j d).row ≡ get_or fields j d
  field_back j a fits =
      let f = get_or fields j d in
      let at : ℕ = f.row.first - 1 in
      ap (λ (x : ℕ). field f.row x) (number-back (laid fields l) at f.row.size f.number there (leb-false (256 ^ f.row.size) f.number fits))
    where
      rows : List Row
      rows = map row_of fields

      same : get_or rows j (row_of d) ≡ (get_or fields j d).row
      same = map_at row_of fields d (row_of d) j a

      among : j < length rows
      among = omega (arith, length-map row_of fields)

      there : (i : ℕ) → i < (get_or fields j d).row.size → get_or (laid fields l) ((get_or fields j d).row.first - 1 + i) 0 ≡ octet_of (get_or fields j d) i
      there i m =
          let f = get_or fields j d in
          let in-range = rw same at (held-once c (row_of d) j among) in
          let within = rw same at (row_within c (row_of d) j among) in
          laid-held fields d l j i c.before a m (c.once (f.row.first + i) (in-range i m).0 (in-range i m).1) (omega (arith, (within (omega arith)).1))

  pub fields_back : any_of too_large fields ≡ false → fields_in (map row_of fields) (laid fields l) ≡ fields
  fields_back fit =
      ext_get_or d (fields_in (map row_of fields) (laid fields l)) fields
      (length-map (field_in (laid fields l)) (map row_of fields) ∙ length-map row_of fields)
      (λ j a. whole j (omega (arith, a, length-map (field_in (laid fields l)) (map row_of fields), length-map row_of fields)))
    where
      whole : (j : ℕ) → j < length fields → get_or (fields_in (map row_of fields) (laid fields l)) j d ≡ get_or fields j d
      whole j a =
          map_at (field_in (laid fields l)) (map row_of fields) (row_of d) d j (omega (arith, length-map row_of fields))
          ∙ ap (field_in (laid fields l)) (map_at row_of fields d (row_of d) j a) ∙ field_back j a (any_none too_large fields d fit j a)

-- writing what was read
pub rows_back : (octets : List ℕ) (rows : List Row) → map row_of (fields_in rows octets) ≡ rows
rows_back octets [] = refl
rows_back octets (r ∷ rows) = ap (λ (l : List Row). r ∷ l) (rows_back octets rows)

-- octet i of the number that stands in n octets
octet-back : (octets : List ℕ) (at n i : ℕ) → i < n → get_or octets (at + i) 0 < 256 → number_at octets (at * 8) (n * 8) / 256 ^ (n - suc i) % 256 ≡ get_or octets (at + i) 0
octet-back octets at n i l small =
    let e : n * 8 ≡ i * 8 + 8 + (n - suc i) * 8 = omega arith in
    let place : at * 8 + i * 8 ≡ (at + i) * 8 = omega arith in
    rw (e, ← octet-power (n - suc i))
    (number-mid (bit-lt 8 octets) (at * 8) (i * 8) 8 ((n - suc i) * 8) ∙ ap (λ (p : ℕ). number_of (bit_in 8 octets) p 8) place ∙ octet octets (at + i) small)

module _ {rows : List Row} {n : ℕ} (c : Covers rows n) (s l : List ℕ) (small : (i : ℕ) → get_or s i 0 < 256) (whole : n ≤ length s) (room : n ≤ length l) where
  abbrev fields : List Field
  fields = fields_in rows s

  -- those of a row
  held_back : (d : Row) (j k : ℕ) → j < length rows → k < (get_or rows j d).size → get_or (laid fields l) ((get_or rows j d).first - 1 + k) 0 ≡ get_or s ((get_or rows j d).first - 1 + k) 0
  held_back d j k a m =
      let r = get_or rows j d in
      let same : get_or fields j (field_in s d) ≡ field_in s r = map_at (field_in s) rows d (field_in s d) j a in
      let back : map row_of fields ≡ rows = rows_back s rows in
      let covered = held-once c d j a k m in
      let within = row_within c d j a (omega arith) in
      rw same at
      (laid-held fields (field_in s d) l j k (rw back c.before) (omega (arith, length-map (field_in s) rows)) (rw same m)
      (rw (back, same) (c.once (r.first + k) covered.0 covered.1)) (rw same (omega (arith, within.1))))
      ∙ octet-back s (r.first - 1) r.size k m (small (r.first - 1 + k))

  octet-at : (i : ℕ) (t : Bool) → ltb i n ≡ t → get_or (laid fields l) i 0 ≡ get_or (take n s over l) i 0
  octet-at i true e =
      let h = holder-of rows (row 0 0) (suc i) (omega (arith, c.once (suc i) (omega arith) (omega (arith, ltb-true i n e)))) in
      let r = get_or rows h.place (row 0 0) in
      let low = held_first r (suc i) h.it in
      let high = held-last r (suc i) h.it in
      let within = row_within c (row 0 0) h.place h.among (omega arith) in
      let place : r.first - 1 + (suc i - r.first) ≡ i = omega arith in
      rw place at (held_back (row 0 0) h.place (suc i - r.first) h.among (omega arith))
      ∙ sym (get_or-append (take n s) (drop (length (take n s)) l) 0 i (omega (arith, ltb-true i n e, length-take-le n s whole)) ∙ get_or-take n s i 0 (ltb-true i n e))
  octet-at i false e =
      let front : length (take n s) ≡ n = length-take-le n s whole in
      let behind : length (take n s) + (i - n) ≡ i = omega (arith, ltb-false i n e) in
      laid-other fields l i (rw (rows_back s rows) c.before) (rw (rows_back s rows) (c.beyond (suc i) (omega (arith, ltb-false i n e))))
      ∙ sym (rw behind at (get_or-append-add (take n s) (drop (length (take n s)) l) (i - n) 0 ∙ get_or-drop (length (take n s)) l (i - n) 0))

  pub octets-back : laid (fields_in rows s) l ≡ take n s over l
  octets-back =
      let front : length (take n s) ≡ n = length-take-le n s whole in
      let long : length (take n s over l) ≡ length l = length_over (take n s) l (omega arith) in
      ext_get_or 0 (laid fields l) (take n s over l) (length-laid fields l ∙ sym long) (λ i a. octet-at i (ltb i n) refl)

-- ---- the table

abbrev ends_past : ℕ → Row → Bool
ends_past n r = ltb (suc n) (r.first + r.size)

-- no row holds an octet past the last row's end
none-past : (rows : List Row) (n octet : ℕ) → any_of (ends_past n) rows ≡ false → n < octet → holders rows octet ≡ 0
unfolding holders any_of
none-past [] n octet e h = refl
none-past (r ∷ rows) n octet e h =
    let ends : r.first + r.size ≤ octet = omega (arith, ltb-false (suc n) (r.first + r.size) (either_left (ends_past n r) (any_of (ends_past n) rows) e)) in
    rw (le-ltb octet (r.first + r.size) ends, and-false)
    (omega (arith, none-past rows n octet (either-right (ends_past n r) (any_of (ends_past n) rows) e) h))

-- rows cover what three tests that compute say
covers-by : (rows : List Row) (n : ℕ) → any_of (λ i. not (eqb (holders rows (suc i)) 1)) (listed n (λ i. i)) ≡ false → holders rows 0 ≡ 0
    → any_of (ends_past n) rows ≡ false → Covers rows n
covers-by rows n each start end = record { once = once; before = start; beyond = λ octet a. none-past rows n octet end a }
  where
    once : (octet : ℕ) → 1 ≤ octet → octet ≤ n → holders rows octet ≡ 1
    once zero a b = absurd (omega arith)
    once (suc i) a b =
        not-equal-false (holders rows (suc i)) 1
        (rw (get_or-listed n (λ i. i) 0 i b) at
        (any_none (λ i. not (eqb (holders rows (suc i)) 1)) (listed n (λ i. i)) 0 each i (omega (arith, length-listed n (λ i. i)))))

-- what holds of the rows and octets of both templates holds of a template's
pub either-template : (P : ℕ → ℕ → Type 0) → P 22 49 → P 20 47 → (template : ℕ) → P (field_count template) (section_size template)
unfolding field_count section_size
either-template P spatial complex template = by-test (eqb template 3)
  where
    by-test : (b : Bool) → P (cond b 22 20) (cond b 49 47)
    by-test true = spatial
    by-test false = complex

-- "the table's rows are shown to cover each octet once, one statement for both templates"
pub covered : (template : ℕ) → Covers (rows_of template) (section_size template)
unfolding table holders any_of listed
covered =
    either-template (λ count size. Covers (take count table) size) (covers-by (take 22 table) 49 refl refl refl)
    (covers-by (take 20 table) 47 refl refl refl)

pub rows-length : (template : ℕ) → length (rows_of template) ≡ field_count template
unfolding table
rows-length = either-template (λ count size. length (take count table) ≡ count) refl refl

pub fields-some : (template : ℕ) → 20 ≤ field_count template
fields-some = either-template (λ count size. 20 ≤ count) (omega arith) (omega arith)

pub fields-few : (template : ℕ) → field_count template ≤ 22
fields-few = either-template (λ count size. count ≤ 22) (omega arith) (omega arith)

-- ---- what 14 does not refuse

pub record Right (lent asked : ℕ) (head : Head) : Type 0 where
  pub enough : asked ≤ lent
  pub length : head.length ≡ section_size head.template
  pub number : head.number ≡ 5
  pub known : (not (eqb head.template 2) && not (eqb head.template 3)) ≡ false

module _ (lent asked : ℕ) (head : Head) where
  pub right-head : wrong_head lent asked head ≡ false → Right lent asked head
  unfolding wrong_head
  right-head e =
      let few = ltb lent asked in
      let long = not (eqb head.length (section_size head.template)) in
      let other = not (eqb head.number 5) in
      let neither = not (eqb head.template 2) && not (eqb head.template 3) in
      let three = either_left (few || long || other) neither e in
      let two = either_left (few || long) other three in
      record {
        enough = ltb-false lent asked (either_left few long two);
        length = not-equal-false head.length (section_size head.template) (either-right few long two);
        number = not-equal-false head.number 5 (either-right (few || long) other three);
        known = either-right (few || long || other) neither e;
      }

  pub head-right : Right lent asked head → wrong_head lent asked head ≡ false
  unfolding wrong_head
  head-right r =
      rw
      (le-ltb lent asked r.enough, eq-eqb head.length (section_size head.template) r.length, eq-eqb head.number 5 r.number, r.known)
