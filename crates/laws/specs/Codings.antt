-- The groups of a packing come back from its template numbers and codes, whatever their widths are made of. Assumes nothing.
use Rattle.std.specs.Prelude.{◌≡◌, Bool, true, false, cond, eqb}
use Rattle.std.proofs.Math.Path.{refl, sym}
use Rattle.std.proofs.Common.{ap, ◌∙◌, mul-le-mul_left, eqb-true}
use mathlib.Core.List.{List, [], ◌∷◌, ◌++◌, map, flat_map}
use Prim.Native.Nat.{ℕ, zero, suc, ◌+◌, ◌-◌, ◌*◌, ◌/◌, ◌^◌, ◌≤◌, ◌<◌}
use Rattle.std.proofs.Math.Nat.{div-zero, div-le_self}
use native.Mathlib.Omega.{arith}
use Rattle.std.proofs.lemmas.Bool.{eqb-false}
use Rattle.std.proofs.Math.ListN.{length, get_or, length-append}
use Rattle.format.specs.Lists.{greatest, least}
use Rattle.format.specs.Bits.{string_of, padded, span_of}
use Rattle.format.specs.Refusals.{limit}
use Rattle.format.specs.Template.{widths_at, lengths_at, values_at}
use Rattle.format.specs.Grouping.{digits_in, bits, width_of}
use Rattle.format.specs.Unpacking.{Codes, group_width, group_length, places_of}
use Rattle.format.specs.Packing.{but_last, gcd_from, increment_of, width_coding, length_coding, template_of, length_codes, value_string, payload_of}
use Rattle.format.specs.declared.Lengths.{Lengths}
use Rattle.format.specs.declared.Template.{Template}
use Rattle.laws.specs.Lists.{length-map, map_at}
use Rattle.laws.specs.Codes.{length-but-last, but-last-at}
use Rattle.laws.specs.Divisors.{increment-whole, increment-le, divided-le}
use Rattle.laws.specs.Digits.{bits-within, bits-le}
use Rattle.laws.specs.Extremes.{UpTo, greatest-upper, greatest-each, least-lower, least-greatest}
use Rattle.laws.specs.Bits.{product}
use Rattle.laws.specs.Strings.{length-string, length-padded}
use Rattle.laws.specs.Spans.{span-aligned}
use Rattle.laws.specs.Accepting.{Passing}
use Rattle.laws.specs.Groups.{all_of, NoneEmpty, few-groups, greatest-group, length-group, group_in, groups_in, own_groups, Sound, length-own, greatest-own, least-upto, length-groups, own-group, own-map-at}
use Rattle.laws.specs.Parts.{Fit}
use Rattle.laws.specs.Saying.{Fitting, part-size}

up-to-all : (b : ℕ) (xs : List ℕ) → UpTo b xs → (k : ℕ) → get_or xs k 0 ≤ b
up-to-all b [] h k = omega arith
up-to-all b (x ∷ xs) h zero = h 0 (omega arith)
up-to-all b (x ∷ xs) h (suc k) = up-to-all b xs (λ j l. h (suc j) (omega arith)) k

-- ---- widths

module _ (widths : List ℕ) where
  abbrev pub width_code : ℕ → ℕ
  width_code width = width - (width_coding widths).reference

  pub width_back : (k : ℕ) → k < length widths → width_code (get_or widths k 0) + (width_coding widths).reference ≡ get_or widths k 0
  unfolding width_coding
  width_back k l = omega (arith, least-lower widths k l)

  pub width_fits : (k : ℕ) → k < length widths → width_code (get_or widths k 0) < 2 ^ (width_coding widths).bits
  unfolding width_coding
  width_fits k l =
      bits-within (get_or widths k 0 - least widths) (greatest widths - least widths) (omega (arith, greatest-upper widths k l))

  pub width-limits : UpTo 31 widths → ((width_coding widths).reference ≤ 31) × ((width_coding widths).bits ≤ 5)
  unfolding width_coding
  width-limits h =
      let top = greatest-each 31 widths h in
      (omega (arith, top, least-greatest widths), bits-le 5 (greatest widths - least widths) (omega (arith, top)))

-- ---- lengths

module _ (lengths : List ℕ) where
  abbrev coding : Lengths
  coding = length_coding lengths

  abbrev pub length_code : ℕ → ℕ
  length_code length = (length - coding.reference) / coding.increment

  abbrev differences : List ℕ
  differences = map (λ length. length - least (but_last lengths)) (but_last lengths)

  difference-at : (k : ℕ) → k < length (but_last lengths) → get_or differences k 0 ≡ get_or (but_last lengths) k 0 - least (but_last lengths)
  difference-at k l = map_at (λ length. length - least (but_last lengths)) (but_last lengths) 0 0 k l

  last-is : coding.last ≡ get_or lengths (length lengths - 1) 0
  unfolding length_coding
  last-is = refl

  pub length_back : (k : ℕ) → k < length (but_last lengths) → length_code (get_or (but_last lengths) k 0) * coding.increment + coding.reference ≡ get_or (but_last lengths) k 0
  unfolding length_coding
  length_back k l =
      omega (
        arith,
        least-lower (but_last lengths) k l,
        rw (difference-at k l) at (increment-whole differences k (omega (arith, length-map (λ length. length - least (but_last lengths)) (but_last lengths)))),
      )

  pub length-fits : (k : ℕ) → k < length (but_last lengths) → length_code (get_or (but_last lengths) k 0) < 2 ^ coding.bits
  unfolding length_coding
  length-fits k l =
      let increment = increment_of (gcd_from 0 differences) in
      let m : k < length differences = omega (arith, length-map (λ length. length - least (but_last lengths)) (but_last lengths)) in
      let h : get_or (but_last lengths) k 0 - least (but_last lengths) ≤ greatest differences = rw (← difference-at k l) (greatest-upper differences k m) in
      bits-within _ (greatest differences / increment) (divided-le _ (greatest differences) increment h)

  -- where codes have bits there is an increment
  pub length-steps : 0 < coding.bits → 0 < coding.increment
  unfolding length_coding bits digits_in
  length-steps h = by-increment (greatest differences) (increment_of (gcd_from 0 differences)) h
    where
      by-increment : (x d : ℕ) → 0 < bits (x / d) → 0 < d
      by-increment x zero h = rw (div-zero x) at h
      by-increment x (suc d) h = omega arith

  pub length-limits : UpTo limit lengths → (coding.reference ≤ limit) × (coding.increment ≤ 255) × (coding.last ≤ limit) × (coding.bits ≤ 23)
  unfolding length_coding
  length-limits h =
      let firsts : UpTo limit (but_last lengths) = λ k l. omega (arith, but-last-at lengths k (omega (arith, length-but-last lengths)), h k (omega (arith, length-but-last lengths))) in
      let many = length-map (λ length. length - least (but_last lengths)) (but_last lengths) in
      let top = greatest-each limit differences (λ k l. omega (arith, difference-at k (omega (arith, many)), firsts k (omega (arith, many)))) in (
        omega (arith, greatest-each limit (but_last lengths) firsts, least-greatest (but_last lengths)),
        increment-le (gcd_from 0 differences),
        up-to-all limit lengths h (length lengths - 1),
        bits-le 23 (greatest differences / increment_of (gcd_from 0 differences)) (omega (arith, top, div-le_self (greatest differences) (increment_of (gcd_from 0 differences)))),
      )

-- ---- groups

-- the codes of groups with these references
abbrev pub codes_for : {A : Type 0} → (List A → ℕ) → List ℕ → Template → List (List A) → Codes
codes_for wide references t groups = record {
  references = references;
  widths = map (λ group. wide group - t.widths.reference) groups;
  lengths = map (λ length. (length - t.lengths.reference) / t.lengths.increment) (but_last (map length groups));
}

-- a template whose widths and lengths are coded as document 01 says
pub record Coded {A : Type 0} (wide : List A → ℕ) (t : Template) (groups : List (List A)) : Type 0 where
  pub some : 0 < length groups
  pub count : t.groups ≡ length groups
  pub widths : t.widths ≡ width_coding (map wide groups)
  pub lengths : t.lengths ≡ length_coding (map length groups)

module _ {A : Type 0} (wide : List A → ℕ) (references : List ℕ) (t : Template) (groups : List (List A)) (h : Coded wide t groups) where
  abbrev codes : Codes
  codes = codes_for wide references t groups

  counted : length (map length groups) ≡ length groups
  counted = length-map length groups

  but-last : length (but_last (map length groups)) + 1 ≡ length groups
  but-last = omega (arith, length-but-last (map length groups), counted, h.some)

  pub own-width : (g : ℕ) → g < length groups → group_width t codes g ≡ wide (get_or groups g [])
  unfolding group_width
  own-width g l =
      let m : g < length (map wide groups) = omega (arith, length-map wide groups) in
      rw (map_at (λ group. wide group - t.widths.reference) groups [] 0 g l, h.widths, ← map_at wide groups [] 0 g l)
      (width_back (map wide groups) g m)

  pub own-length : (g : ℕ) → g < length groups → group_length t codes g ≡ length (get_or groups g [])
  unfolding group_length
  own-length g l = rw (h.count, h.lengths) (by-test (eqb (suc g) (length groups)) refl)
    where
      coded : List ℕ
      coded = map (λ n. (n - (length_coding (map length groups)).reference) / (length_coding (map length groups)).increment) (but_last (map length groups))

      by-test : (b : Bool) → eqb (suc g) (length groups) ≡ b
          → cond b (length_coding (map length groups)).last (get_or coded g 0 * (length_coding (map length groups)).increment + (length_coding (map length groups)).reference) ≡ length (get_or groups g [])
      by-test true e =
          let p : length (map length groups) - 1 ≡ g = omega (arith, counted, eqb-true (suc g) (length groups) e) in
          last-is (map length groups) ∙ ap (λ (k : ℕ). get_or (map length groups) k 0) p ∙ map_at length groups [] 0 g l
      by-test false e =
          let m : g < length (but_last (map length groups)) = omega (arith, but-last, eqb-false (suc g) (length groups) e) in
          rw (map_at (λ n. (n - (length_coding (map length groups)).reference) / (length_coding (map length groups)).increment) (but_last (map length groups)) 0 0 g m)
          (length_back (map length groups) g m ∙ but-last-at (map length groups) g (omega (arith, but-last, counted)) ∙ map_at length groups [] 0 g l)

  pub fitting : (values : List A → List ℕ) → ((group : List A) → length (values group) ≡ length group) → length references ≡ length groups → Fit t.width references
      → ((g : ℕ) → g < length groups → Fit (wide (get_or groups g [])) (values (get_or groups g []))) → Fitting wide values [] t codes groups
  fitting values long many fit-references fit = record {
    count = sym h.count;
    references = many ∙ sym h.count;
    widths = length-map (λ group. wide group - t.widths.reference) groups ∙ sym h.count;
    lengths = ap (λ (n : ℕ). n + 1) (length-map (λ length. (length - t.lengths.reference) / t.lengths.increment) (but_last (map length groups))) ∙ but-last ∙ sym h.count;
    fit-references = fit-references;
    fit-widths = λ k l.
        let code : List A → ℕ = λ group. wide group - t.widths.reference in
        let m : k < length groups = omega (arith, length-map code groups) in
        rw (map_at code groups [] 0 k m, h.widths, ← map_at wide groups [] 0 k m) (width_fits (map wide groups) k (omega (arith, length-map wide groups)));
    fit-lengths = λ k l.
        let code : ℕ → ℕ = λ length. (length - t.lengths.reference) / t.lengths.increment in
        let m : k < length (but_last (map length groups)) = omega (arith, length-map code (but_last (map length groups))) in
        rw (map_at code (but_last (map length groups)) 0 0 k m, h.lengths) (length-fits (map length groups) k m);
    fit = λ g l. fit g (omega (arith, h.count));
    group-width = λ g l. own-width g (omega (arith, h.count));
    group-length = λ g l. own-length g (omega (arith, h.count)) ∙ sym (long (get_or groups g []));
  }

-- ---- the template and the payload of groups out of a list

-- no group is longer than the list, nor has a greater number
pub record OutOf (numbers : List ℕ) (groups : List (List ℕ)) : Type 0 where
  pub short : (g : ℕ) → g < length groups → length (get_or groups g []) ≤ length numbers
  pub small : (g : ℕ) → g < length groups → greatest (get_or groups g []) ≤ greatest numbers

pub out_of : (numbers : List ℕ) (groups : List (List ℕ)) → all_of groups ≡ numbers → OutOf numbers groups
out_of numbers groups e = record { short = λ g l. omega (arith, length-group groups g l, ap length e); small = λ g l. omega (arith, greatest-group groups g l, ap greatest e) }

module _ (numbers : List ℕ) (groups : List (List ℕ)) where
  pub template-coded : 0 < length groups → Coded width_of (template_of numbers groups) groups
  unfolding template_of
  template-coded some = record { some = some; count = refl; widths = refl; lengths = refl }

  -- "each starting on an octet": the payload ends where the values do
  pub payload-length : (t : Template) → t.groups ≡ length groups → 0 < length groups → length (payload_of t groups) ≡ (places_of 0 t (length (value_string groups))).end.0
  unfolding places_of payload_of length_codes widths_at lengths_at values_at
  payload-length t n some =
      let lengths = map (λ length. (length - t.lengths.reference) / t.lengths.increment) (but_last (map length groups)) in
      let a = padded (string_of t.width (map least groups)) in
      let b = padded (string_of t.widths.bits (map (λ group. width_of group - t.widths.reference) groups)) in
      let c = padded (string_of t.lengths.bits (lengths ++ (0 ∷ []))) in
      let last : length (lengths ++ (0 ∷ [])) ≡ t.groups =
      omega (arith, length-append lengths (0 ∷ []), length-map (λ length. (length - t.lengths.reference) / t.lengths.increment) (but_last (map length groups)), length-but-last (map length groups), length-map length groups) in
      omega (
        arith,
        length-append (a ++ b ++ c) (padded (value_string groups)),
        length-append (a ++ b) c,
        length-append a b,
        part-size t.width (map least groups) (length-map least groups ∙ sym n),
        part-size t.widths.bits (map (λ group. width_of group - t.widths.reference) groups) (length-map (λ group. width_of group - t.widths.reference) groups ∙ sym n),
        part-size t.lengths.bits (lengths ++ (0 ∷ [])) last,
        length-padded (value_string groups),
      )

  module _ (out : OutOf numbers groups) (few : length groups ≤ limit) (short : length numbers ≤ limit) (small : greatest numbers ≤ 2147483647) where
    pub width-out-of : (g : ℕ) → g < length groups → width_of (get_or groups g []) ≤ 31
    unfolding width_of
    width-out-of g l = let group = get_or groups g [] in bits-le 31 (greatest group - least group) (omega (arith, out.small g l))

    pub widths-limits : ((template_of numbers groups).widths.reference ≤ 31) × ((template_of numbers groups).widths.bits ≤ 5)
    unfolding template_of
    widths-limits =
        width-limits (map width_of groups)
        (λ k l. let m : k < length groups = omega (arith, length-map width_of groups) in rw (map_at width_of groups [] 0 k m) (width-out-of k m))

    pub lengths-limits : let c = (template_of numbers groups).lengths in (c.reference ≤ limit) × (c.increment ≤ 255) × (c.last ≤ limit) × (c.bits ≤ 23)
    unfolding template_of
    lengths-limits =
        length-limits (map length groups)
        (λ k l. let m : k < length groups = omega (arith, length-map length groups) in rw (map_at length groups [] 0 k m) (omega (arith, out.short k m)))

    pub template-passing : Passing (template_of numbers groups)
    unfolding template_of
    template-passing = record {
      few = few;
      width = bits-le 31 (greatest numbers) (omega arith);
      widths = omega (arith, widths-limits.1);
      lengths = omega (arith, lengths-limits.3);
    }

-- the values take no more than 31 bits a number
values-short : (groups : List (List ℕ)) → ((g : ℕ) → g < length groups → width_of (get_or groups g []) ≤ 31) → length (value_string groups) ≤ length (all_of groups) * 31
unfolding value_string flat_map
values-short [] h = omega arith
values-short (group ∷ groups) h =
    let values = map (λ number. number - least group) group in
    omega (
      arith,
      length-append (string_of (width_of group) values) (value_string groups),
      length-append group (all_of groups),
      length-string (width_of group) values,
      ap (λ (n : ℕ). n * width_of group) (length-map (λ number. number - least group) group),
      mul-le-mul_left (length group) (h 0 (omega arith)),
      values-short groups (λ g l. h (suc g) (omega arith)),
    )

-- "A number [..] take four octets": so does the payload's length
pub payload-short : (numbers : List ℕ) (groups : List (List ℕ)) → all_of groups ≡ numbers → NoneEmpty groups → 0 < length groups → length numbers ≤ limit → greatest numbers ≤ 2147483647
    → length (payload_of (template_of numbers groups) groups) < 2 ^ 32
unfolding places_of widths_at lengths_at values_at
payload-short numbers groups e none some short small =
    let t = template_of numbers groups in
    let few : length groups ≤ limit = omega (arith, few-groups groups none, ap length e) in
    let out = out_of numbers groups e in
    let passing = template-passing numbers groups out few short small in
    let coded = template-coded numbers groups some in
    let field : (w : ℕ) → w ≤ 32 → span_of 0 w t.groups ≤ 16777216 = λ w l. omega (arith, span-aligned w t.groups, product t.groups w limit 32 passing.few l) in
    omega (
      arith,
      payload-length numbers groups t coded.count some,
      field t.width (omega (arith, passing.width)),
      field t.widths.bits passing.widths,
      field t.lengths.bits passing.lengths,
      values-short groups (width-out-of numbers groups out few short small),
      ap length e,
    )

-- ---- of the groups that the records in a lent list speak of

module _ {numbers octets : List ℕ} {count : ℕ} (s : Sound numbers octets count) where
  abbrev groups : List (List ℕ)
  groups = own_groups numbers (groups_in octets count)

  abbrev template : Template
  template = template_of numbers groups

  pub list-coded : Coded width_of template groups
  list-coded = template-coded numbers groups (rw (length-groups numbers octets count) s.some)

  pub list-passing : Passing template
  list-passing =
      let long = length-groups numbers octets count in
      template-passing numbers groups
      (record {
        short = λ g l. let m : g < count = omega arith in rw (own-group numbers octets count g m) (omega (arith, length-own (s.each g m), (s.each g m).within));
        small = λ g l. let m : g < count = omega arith in rw (own-group numbers octets count g m) (greatest-own (s.each g m));
      })
      (omega (arith, s.few)) s.short s.small

  -- the numbers of record k are coded as those of group k: each is no less than the reference, and its code fits
  pub reference-fits : (k : ℕ) → k < count → (group_in octets k).least < 2 ^ template.width
  unfolding template_of
  reference-fits k l = bits-within (group_in octets k).least (greatest numbers) (least-upto (s.each k l))

  pub width-coded : (k : ℕ) → k < count
      → (template.widths.reference ≤ (group_in octets k).width) × ((group_in octets k).width - template.widths.reference < 2 ^ template.widths.bits)
  unfolding template_of
  width-coded k l =
      let e = own-map-at numbers octets count (λ r. r.width) width_of (λ r h. h.width) s.each k l in
      let m : k < length (map width_of groups) = omega (arith, length-map width_of groups, length-groups numbers octets count) in
      (omega (arith, rw e at (width_back (map width_of groups) k m)), rw e at (width_fits (map width_of groups) k m))

  pub length-coded : (k : ℕ) → k < count - 1
      → (template.lengths.reference ≤ (group_in octets k).length) × (((group_in octets k).length - template.lengths.reference) / template.lengths.increment < 2 ^ template.lengths.bits)
  unfolding template_of
  length-coded k l =
      let long : length (map length groups) ≡ count = length-map length groups ∙ length-groups numbers octets count in
      let e = but-last-at (map length groups) k (omega arith) ∙ own-map-at numbers octets count (λ r. r.length) length (λ r h. sym (length-own h)) s.each k (omega arith) in
      let m : k < length (but_last (map length groups)) = omega (arith, length-but-last (map length groups)) in
      (omega (arith, rw e at (length_back (map length groups) k m)), rw e at (length-fits (map length groups) k m))

  pub list_steps : 0 < template.lengths.bits → 0 < template.lengths.increment
  unfolding template_of
  list_steps h = length-steps (map length groups) h
