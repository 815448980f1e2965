-- The values of groups, group after group. Assumes nothing.
use Rattle.std.proofs.Common.{◌≡◌, ℕ, suc, ◌+◌, ◌-◌, ◌*◌, ◌^◌, ◌<◌, ◌≤◌, length, get_or, take, refl, sym, ap, ap₂, ◌∙◌, arith}
use mathlib.Core.List.{List, [], ◌∷◌, ◌++◌, map, map-append, flat_map, append-nil}
use Rattle.std.proofs.lemmas.List.{length-map, length-append, length-take, get_or-take, take_more, take_all}
use Rattle.std.proofs.lemmas.List.Sums.{fold_more, sum_by-cons, sum_by_more_le}
use Rattle.format.specs.Bits.{string_of}
use Rattle.format.specs.Packing.{value_string}
use Rattle.format.specs.declared.Group.{Group}
use Rattle.laws.specs.Lists.{get_or-listed}
use Rattle.laws.specs.Strings.{length-string}
use Rattle.laws.specs.Stores.{flat_append}
use Rattle.laws.specs.Groups.{own_numbers, own_groups, RecordOf, length-own, value_low, value-fits, values_listed, width-upto}
use Rattle.writer.specs.Pen.{Ready, Moved}
use Rattle.writer.specs.declared.Pen.{Pen}
use Rattle.writer.proofs.Pens.{moved_then, moved_ready}
use Rattle.writer.proofs.Jobs.{number-ready, number-moved}
use Rattle.numbers.specs.Records.{IsAt, Recorded}
use native.Mathlib.Nat.{mul-le-mul}
use Rattle.format.specs.Refusals.{limit}
use Rattle.section7.specs.Parts.{FewBits, values_of, group_bits, value_bits, Countable}

-- ---- a group

module _ {numbers : List ℕ} {r : Group} (h : RecordOf numbers r) where
  -- its values, as they are put
  abbrev values : List ℕ
  values = map (λ n. n - r.least) (own_numbers numbers r)

  count-values : length values ≡ r.length
  count-values = length-map (own_numbers numbers r) (λ n. n - r.least) ∙ length-own h

  value-at : (k : ℕ) → k < r.length → get_or values k 0 ≡ get_or numbers (r.start + k) 0 - r.least
  value-at k l = ap (λ (xs : List ℕ). get_or xs k 0) (values_listed h) ∙ get_or-listed r.length _ 0 k l

  values-are : string_of r.width values ≡ values_of (own_numbers numbers r)
  values-are = rw (h.least, h.width)

  pub size-values : length (values_of (own_numbers numbers r)) ≡ group_bits r
  size-values = ap length (sym values-are) ∙ length-string r.width values ∙ ap (λ (m : ℕ). m * r.width) count-values

  module _ (k : ℕ) (l : k < r.length) {x : ℕ} (ex : x ≡ get_or numbers (r.start + k) 0) where
    pub value-least : r.least ≤ x
    value-least = rw ex (value_low h k l)

    pub value-narrow : x - r.least < 2 ^ r.width
    value-narrow = rw ex (value-fits h k l)

    module _ {p q : Pen} {octets octets' : List ℕ} (m : Moved p (string_of r.width (take k values)) octets octets' q) where
      pub value-ready : Ready p (group_bits r) octets → Ready q r.width octets'
      value-ready ready = number-ready r.width values k (rw count-values l) (rw count-values ready) m

      pub value-moved : {s : Pen} {octets'' : List ℕ} → Moved q (string_of r.width ((x - r.least) ∷ [])) octets' octets'' s → Moved p (string_of r.width (take (k + 1) values)) octets octets'' s
      value-moved n = number-moved r.width values k (rw count-values l) m (rw ex (sym (value-at k l))) n

  pub values-moved : (k : ℕ) → r.length ≤ k → {p q : Pen} {octets octets' : List ℕ} → Moved p (string_of r.width (take k values)) octets octets' q
      → Moved p (values_of (own_numbers numbers r)) octets octets' q
  values-moved k l m = rw (← values-are) (rw (take_all k values (omega (arith, count-values))) at m)

-- ---- their bits

pub few-bits : {g : Group} → FewBits g → group_bits g ≤ limit * 32
few-bits h = mul-le-mul h.short h.narrow

module _ (groups : List Group) (k : ℕ) {g : Group} (l : k < length groups) (e : IsAt groups k g) where
  pub bits-next : {bits more : ℕ} → bits ≡ value_bits (take k groups) → more ≡ group_bits g → bits + more ≡ value_bits (take (k + 1) groups)
  bits-next eb em = rw (eb, em) (ap (λ (h : Group). value_bits (take k groups) + group_bits h) (e g) ∙ sym (fold_more (λ a x. a + group_bits x) 0 groups k g l))

pub bits-all : (groups : List Group) (k : ℕ) {bits : ℕ} → length groups ≤ k → bits ≡ value_bits (take k groups) → bits ≡ value_bits groups
bits-all groups k l e = e ∙ ap value_bits (take_all k groups l)

-- ---- group after group

module _ (numbers : List ℕ) where
  abbrev string : List Group → List ℕ
  string groups = value_string (own_groups numbers groups)

  string-more : (groups : List Group) (k : ℕ) {g : Group} → k < length groups → IsAt groups k g → string (take (k + 1) groups) ≡ string (take k groups) ++ values_of (own_numbers numbers g)
  unfolding value_string flat_map
  string-more groups k {g} l e =
      ap string (take_more groups k g l ∙ ap (λ (h : Group). take k groups ++ (h ∷ [])) (sym (e g)))
      ∙ ap value_string (map-append (own_numbers numbers) (take k groups) (g ∷ []))
      ∙ flat_append values_of (own_groups numbers (take k groups)) (own_numbers numbers g ∷ [])
      ∙ ap (λ (s : List ℕ). string (take k groups) ++ s) (append-nil (values_of (own_numbers numbers g)))

  pub size-string : (groups : List Group) → ((d : Group) (k : ℕ) → k < length groups → RecordOf numbers (get_or groups k d)) → length (string groups) ≡ value_bits groups
  unfolding value_string flat_map
  size-string [] each = refl
  size-string (g ∷ groups) each =
      length-append (values_of (own_numbers numbers g)) (string groups)
      ∙ ap₂ (λ (m n : ℕ). m + n) (size-values (each g 0 (omega arith))) (size-string groups (λ d k l. each d (suc k) (omega arith)))
      ∙ sym (sum_by-cons group_bits g groups)

module _ {numbers : List ℕ} {groups : List Group} (h : Recorded numbers groups) where
  pub countable : Countable groups
  countable = record {
    few = h.few;
    each = λ k g l e. let r = h.each g k l in rw (e g) (record { short = omega (arith, r.within, h.short); narrow = width-upto r 32 (omega (arith, h.small)) });
  }

  module _ (k : ℕ) (l : k < length groups) {g : Group} (e : IsAt groups k g) where
    pub group-recorded : RecordOf numbers g
    group-recorded = rw (← e g) at (h.each g k l)

    module _ {p q : Pen} {payload payload' : List ℕ} (m : Moved p (string numbers (take k groups)) payload payload' q) where
      pub group-ready : Ready p (value_bits groups) payload → Ready q (group_bits g) payload'
      group-ready ready =
          let size = size-string numbers (take k groups) (λ d i n. let j : i < k = omega (arith, length-take k groups) in rw (get_or-take k groups i d j) (h.each d i (omega arith))) in
          moved_ready m (group_bits g) ready (omega (arith, size, rw (← e g) at (sum_by_more_le group_bits groups k g l)))

      pub group-moved : {s : Pen} {payload'' : List ℕ} → Moved q (values_of (own_numbers numbers g)) payload' payload'' s → Moved p (string numbers (take (k + 1) groups)) payload payload'' s
      group-moved n = rw (string-more numbers groups k l e) (moved_then m n)

  pub groups-moved : (k : ℕ) → length groups ≤ k → {p q : Pen} {payload payload' : List ℕ} → Moved p (string numbers (take k groups)) payload payload' q
      → Moved p (string numbers groups) payload payload' q
  groups-moved k l m = rw (take_all k groups l) at m
