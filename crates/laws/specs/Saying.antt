-- A payload of some codes and values says them: what packing writes, unpacking takes from it. Assumes nothing.
use Rattle.std.specs.Prelude.{◌≡◌, ℕ, ◌+◌, ◌-◌, ◌*◌, ◌≤◌, ◌<◌, get_or}
use Rattle.std.proofs.Common.{sym, ◌∙◌, arith, take_all}
use Rattle.std.proofs.Math.Path.{ap, ap₂}
use mathlib.Core.List.{List, [], ◌∷◌, ◌++◌, append_assoc, map, flat_map}
use Rattle.std.proofs.Math.ListN.{length, length-append}
use Rattle.format.specs.Lists.{total}
use Rattle.format.specs.Bits.{field_of, string_of, rounded_up, padded, span_of}
use Rattle.format.specs.Template.{widths_at, lengths_at, values_at}
use Rattle.format.specs.Unpacking.{Codes, codes_of, group_width, group_length, bits_before, said_by}
use Rattle.format.specs.declared.Template.{Template}
use Rattle.laws.specs.Lists.{listed-ext, listed-map, total_ext}
use Rattle.laws.specs.Spans.{span-aligned}
use Rattle.laws.specs.Strings.{bits-string, length-string, length-padded, string-append}
use Rattle.laws.specs.Parts.{Fit, field-first, field-alone, value_bits, values-back, bits_of}

-- octets of a field that is padded
pub part-size : (w : ℕ) (xs : List ℕ) {n : ℕ} → length xs ≡ n → length (padded (string_of w xs)) ≡ span_of 0 w n
part-size w xs {n} e = length-padded (string_of w xs) ∙ ap rounded_up (length-string w xs ∙ ap (λ (m : ℕ). m * w) e) ∙ sym (span-aligned w n)

-- codes and values that fit a template. The values of a group are numbers of one width.
pub record Fitting {A : Type 0} (wide : A → ℕ) (values : A → List ℕ) (d : A) (t : Template) (codes : Codes) (groups : List A) : Type 0 where
  pub count : length groups ≡ t.groups
  pub references : length codes.references ≡ t.groups
  pub widths : length codes.widths ≡ t.groups
  pub lengths : length codes.lengths + 1 ≡ t.groups
  pub fit-references : Fit t.width codes.references
  pub fit-widths : Fit t.widths.bits codes.widths
  pub fit-lengths : Fit t.lengths.bits codes.lengths
  pub fit : (g : ℕ) → g < t.groups → Fit (wide (get_or groups g d)) (values (get_or groups g d))
  pub group-width : (g : ℕ) → g < t.groups → group_width t codes g ≡ wide (get_or groups g d)
  pub group-length : (g : ℕ) → g < t.groups → group_length t codes g ≡ length (values (get_or groups g d))

-- "each starting on an octet: [..] group references at the number width, width codes, length codes, values", behind a front
-- that may hold descriptors, and before whatever follows. The last length code is x.
module _ {A : Type 0} (wide : A → ℕ) (values : A → List ℕ) (d : A) (t : Template) (codes : Codes) (x : ℕ) (groups : List A)
    (h : Fitting wide values d t codes groups) (front rest : List ℕ) where
  abbrev a : List ℕ
  a = padded (string_of t.width codes.references)

  abbrev b : List ℕ
  b = padded (string_of t.widths.bits codes.widths)

  abbrev c : List ℕ
  c = padded (string_of t.lengths.bits (codes.lengths ++ (x ∷ [])))

  abbrev v : List ℕ
  v = padded (flat_map (value_bits wide values) groups)

  abbrev pub payload : List ℕ
  payload = front ++ (a ++ b ++ c ++ v) ++ rest

  -- ---- where the parts begin

  at-widths : length (front ++ a) ≡ widths_at (length front) t
  unfolding widths_at
  at-widths = length-append front a ∙ ap (λ (n : ℕ). length front + n) (part-size t.width codes.references h.references)

  at-lengths : length (front ++ a ++ b) ≡ lengths_at (length front) t
  unfolding lengths_at
  at-lengths = length-append (front ++ a) b ∙ ap₂ (λ (m n : ℕ). m + n) at-widths (part-size t.widths.bits codes.widths h.widths)

  at-values : length (front ++ a ++ b ++ c) ≡ values_at (length front) t
  unfolding values_at
  at-values =
      length-append (front ++ a ++ b) c
      ∙ ap₂ (λ (m n : ℕ). m + n) at-lengths (part-size t.lengths.bits (codes.lengths ++ (x ∷ [])) (length-append codes.lengths (x ∷ []) ∙ h.lengths))

  -- the first bits of the values of g groups
  bits-there : (g : ℕ) → g ≤ t.groups → bits_before t codes g ≡ total g (λ k. length (values (get_or groups k d)) * wide (get_or groups k d))
  unfolding bits_before
  bits-there g l = total_ext g _ _ (λ k m. ap₂ (λ (x y : ℕ). x * y) (h.group-length k (omega arith)) (h.group-width k (omega arith)))

  -- the values end with the last value's octet
  pub at-end : length (front ++ (a ++ b ++ c ++ v)) ≡ values_at (length front) t + rounded_up (bits_before t codes t.groups)
  at-end =
      let string = flat_map (value_bits wide values) groups in
      let whole : length string ≡ bits_before t codes t.groups =
      ap (λ (gs : List A). length (flat_map (value_bits wide values) gs)) (sym (take_all t.groups groups (omega (arith, h.count))))
      ∙ bits_of wide values d groups t.groups (omega (arith, h.count)) ∙ sym (bits-there t.groups (omega arith)) in
      let split : front ++ (a ++ b ++ c ++ v) ≡ front ++ a ++ b ++ c ++ v = simp append_assoc in
      ap length split ∙ length-append (front ++ a ++ b ++ c) v ∙ ap₂ (λ (m n : ℕ). m + n) at-values (length-padded string ∙ ap rounded_up whole)

  -- ---- what they hold

  references-back : field_of payload (length front * 8) t.width t.groups ≡ codes.references
  references-back =
      let split : payload ≡ front ++ a ++ (b ++ c ++ v ++ rest) = simp append_assoc in
      rw (split, ← h.references) (field-alone front (b ++ c ++ v ++ rest) t.width codes.references h.fit-references)

  widths-back : field_of payload (widths_at (length front) t * 8) t.widths.bits t.groups ≡ codes.widths
  widths-back =
      let split : payload ≡ (front ++ a) ++ b ++ (c ++ v ++ rest) = simp append_assoc in
      rw (split, ← at-widths, ← h.widths) (field-alone (front ++ a) (c ++ v ++ rest) t.widths.bits codes.widths h.fit-widths)

  lengths-back : field_of payload (lengths_at (length front) t * 8) t.lengths.bits (t.groups - 1) ≡ codes.lengths
  lengths-back =
      let split : payload ≡ (front ++ a ++ b) ++ c ++ (v ++ rest) = simp append_assoc in
      let n : t.groups - 1 ≡ length codes.lengths = omega (arith, h.lengths) in
      let w = t.lengths.bits in
      rw (split, ← at-lengths, n, string-append w codes.lengths (x ∷ []))
      (field-first (front ++ a ++ b) (v ++ rest) w codes.lengths (string_of w (x ∷ [])) (bits-string w (x ∷ [])) h.fit-lengths)

  pub codes-back : codes_of (length front) t payload ≡ codes
  unfolding codes_of
  codes-back = rw (references-back, widths-back, lengths-back)

  values-there : (g : ℕ) → g < t.groups → field_of payload (values_at (length front) t * 8 + bits_before t codes g) (group_width t codes g) (group_length t codes g) ≡ values (get_or groups g d)
  values-there g l =
      let split : payload ≡ (front ++ a ++ b ++ c) ++ v ++ rest = simp append_assoc in
      rw (split, ← at-values, h.group-width g l, h.group-length g l, bits-there g (omega arith))
      (values-back wide values d (front ++ a ++ b ++ c) rest groups g (omega (arith, h.count)) (h.fit g l))

  pub said-back : said_by (length front) t payload ≡ record { codes = codes; values = map values groups }
  unfolding said_by
  said-back = rw codes-back (ap (λ (vs : List (List ℕ)). record { codes = codes; values = vs }) (listed-ext t.groups _ _ values-there ∙ listed-map values groups d h.count))
