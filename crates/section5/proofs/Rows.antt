-- The table's rows, how many of them a template has, and the numbers in their octets. Assumes nothing.
use mathlib.Core.Path.{◌≡◌, refl, ap, ◌∙◌}
use mathlib.Core.Bool.{Bool, true, false, not, ◌||◌, ◌&&◌, or-true}
use mathlib.Core.List.{List}
use Prim.Native.Nat.{ℕ, ◌+◌, ◌-◌, ◌*◌, ◌<◌}
use borrow.Author.Tests.{ltb-false, lt-ltb, eq-eqb, ne_eqb}
use lib.Dec.{ltb, eqb}
use lib.ListN.{get_or, set, replicate}
use Rattle.format.specs.Lists.{listed, any_of, ◌over◌}
use Rattle.format.specs.Section5.{row, table, section_size, field_in, numbers_of, fields_in, fields_of, at, head_of, declared_of, template_of, differencing_of, wrong_head}
use Rattle.format.specs.Template.{template_by}
use Rattle.format.specs.declared.Template.{Template}
use Rattle.format.specs.declared.Row.{Row}
use Rattle.format.specs.declared.Head.{Head}
use Rattle.laws.specs.Lists.{any_none, grown}
use Rattle.laws.specs.Bits.{number_lt, bit-lt}
use Rattle.section5.specs.Fields.{InTable, Fitting}
use Rattle.section5.specs.Kind.{number}
use Rattle.section5.specs.declared.kind.Kind.{Kind}
use Rattle.section5.specs.declared.kind.Kind.TheVariants.{Complex, Spatial}

-- ---- rows

-- what a test over the whole table says of each row
each_row : (wrong : Row → Bool) → any_of wrong table ≡ false → (k : ℕ) → k < 22 → wrong (get_or table k (row 0 0)) ≡ false
unfolding table
each_row wrong e k l = any_none wrong table (row 0 0) e k l

pub in_table : (k : ℕ) → k < 22 → InTable k (get_or table k (row 0 0))
unfolding table any_of
in_table k l = record {
  is = refl;
  first = refl;
  size = refl;
  started = ltb-false (get_or table k (row 0 0)).first 1 (each_row (λ r. ltb r.first 1) refl k l);
  ended = ltb-false 49 (get_or table k (row 0 0)).first (each_row (λ r. ltb 49 r.first) refl k l);
  some = ltb-false (get_or table k (row 0 0)).size 1 (each_row (λ r. ltb r.size 1) refl k l);
  small = ltb-false 4 (get_or table k (row 0 0)).size (each_row (λ r. ltb 4 r.size) refl k l);
}

-- ---- 14

module _ (head : Head) (lent asked : ℕ) where
  pub wrong-lent : lent < asked → wrong_head lent asked head ≡ true
  unfolding wrong_head
  wrong-lent h = rw (lt-ltb lent asked h)

  pub wrong-template : (head.template ≡ 2 → ⊥) → (head.template ≡ 3 → ⊥) → wrong_head lent asked head ≡ true
  unfolding wrong_head
  wrong-template n m = rw (ne_eqb head.template 2 n, ne_eqb head.template 3 m) (or-true _)

  pub wrong-length : (head.length ≡ section_size head.template → ⊥) → wrong_head lent asked head ≡ true
  unfolding wrong_head
  wrong-length n = rw (ne_eqb head.length (section_size head.template) n, or-true (ltb lent asked))

  pub wrong-number : (head.number ≡ 5 → ⊥) → wrong_head lent asked head ≡ true
  unfolding wrong_head
  wrong-number n = rw (ne_eqb head.number 5 n, or-true (ltb lent asked || not (eqb head.length (section_size head.template))))

  pub right_head : (kind : Kind) → number kind ≡ head.template → head.length ≡ section_size head.template → head.number ≡ 5 → wrong_head lent asked head ≡ ltb lent asked
  unfolding wrong_head
  right_head kind e l n = rw (eq-eqb head.length (section_size head.template) l, eq-eqb head.number 5 n, ← e) (by-kind kind (ltb lent asked))
    where
      by-kind : (k : Kind) (b : Bool) → (((b || false) || false) || (not (eqb (number k) 2) && not (eqb (number k) 3))) ≡ b
      by-kind Complex true = refl
      by-kind Complex false = refl
      by-kind Spatial true = refl
      by-kind Spatial false = refl

-- ---- the numbers of all rows

module _ (section5 : List ℕ) where
  abbrev pub number_of_row : ℕ → ℕ
  number_of_row k = (field_in section5 (get_or table k (row 0 0))).number

  pub read-row : {k number : ℕ} {r : Row} → InTable k r → number ≡ (field_in section5 r).number → number ≡ number_of_row k
  read-row {number = number} {r = r} i e = rw i.is at e

  -- the first k of them are there
  pub record Filled (numbers : List ℕ) (k : ℕ) : Type 0 where
    pub front : numbers ≡ listed k number_of_row over replicate 22 0

  pub filled_none : Filled (replicate 22 0) 0
  unfolding listed
  filled_none = record { front = refl }

  pub filled_more : {numbers : List ℕ} {k number : ℕ} → Filled numbers k → k < 22 → number ≡ number_of_row k → Filled (set numbers k number) (k + 1)
  filled_more {k = k} f l e = record { front = rw (f.front, e) (grown number_of_row (replicate 22 0) k l) }

  pub filled-all : {numbers : List ℕ} {k : ℕ} → Filled numbers k → k ≡ 22 → numbers ≡ numbers_of (fields_in table section5)
  unfolding table listed
  filled-all f e = f.front ∙ ap (λ (n : ℕ). listed n number_of_row over replicate 22 0) e

  -- a row of one octet holds a number below 256
  fits-octet : (first : ℕ) → (field_in section5 (row first 1)).number < 256
  fits-octet first = number_lt (bit-lt 8 section5) ((first - 1) * 8) 8

  pub fitting : {numbers : List ℕ} → numbers ≡ numbers_of (fields_in table section5) → Fitting numbers
  unfolding table
  fitting e =
      rw e
      record {
        width = fits-octet 20;
        splitting = fits-octet 22;
        management = fits-octet 23;
        width-reference = fits-octet 36;
        width-bits = fits-octet 37;
        increment = fits-octet 42;
        length-bits = fits-octet 47;
        order = fits-octet 48;
        octets = fits-octet 49;
      }

  -- the fields of those numbers are those that it holds
  pub fields-same : {numbers : List ℕ} → numbers ≡ numbers_of (fields_in table section5) → fields_of table numbers ≡ fields_in table section5
  unfolding table listed
  fields-same e = rw e

  pub declared-is : {numbers : List ℕ} → numbers ≡ numbers_of (fields_in table section5) → get_or numbers 2 0 ≡ declared_of (fields_in table section5)
  unfolding table listed at
  declared-is e = rw e

-- ---- what the numbers say

module _ (numbers : List ℕ) where
  pub head-is : record { length = get_or numbers 0 0; number = get_or numbers 1 0; template = get_or numbers 3 0 } ≡ head_of (fields_of table numbers)
  unfolding table listed at
  head-is = refl

  pub template-is : {width splitting management width_reference width_bits increment length_bits : ℕ} {t : Template}
      → width ≡ get_or numbers 7 0 → splitting ≡ get_or numbers 9 0 → management ≡ get_or numbers 10 0 → width_reference ≡ get_or numbers 14 0
      → width_bits ≡ get_or numbers 15 0 → increment ≡ get_or numbers 17 0 → length_bits ≡ get_or numbers 19 0
      → t ≡ template_by width splitting management (get_or numbers 13 0) width_reference width_bits (get_or numbers 16 0) increment (get_or numbers 18 0) length_bits
      → t ≡ template_of (fields_of table numbers)
  unfolding table listed at
  template-is a b c d e f g t = rw (t, a, b, c, d, e, f, g)

  pub differencing-is : {order octets : ℕ} → order ≡ get_or numbers 20 0 → octets ≡ get_or numbers 21 0
      → record { order = order; octets = octets } ≡ differencing_of (fields_of table numbers)
  unfolding table listed at
  differencing-is a b = rw (a, b)
