-- The payload of the groups that the records speak of, from its four parts. Assumes nothing.
use Rattle.std.proofs.Common.{◌≡◌, ℕ, ◌+◌, ◌-◌, ◌*◌, ◌/◌, ◌^◌, ◌<◌, ◌≤◌, length, get_or, take, false, leb, refl, sym, ap, ap₂, ◌∙◌, arith}
use mathlib.Core.List.{List, [], ◌∷◌, ◌++◌, map, map-map, append-nil}
use Rattle.std.proofs.lemmas.List.{length-map, length-append, length-take, get_or-take, map_more, take_all}
use lib.Pow.{pow_mono}
use lib.Seq.{sets}
use borrow.Author.Tests.{lt-leb}
use native.Mathlib.Nat.{zero-add, add-zero}
use Rattle.format.specs.Lists.{least, any_of}
use Rattle.format.specs.Bits.{string_of, rounded_up, padded}
use Rattle.format.specs.Refusals.{left}
use Rattle.format.specs.Template.{widths_at, lengths_at, values_at}
use Rattle.format.specs.Grouping.{width_of}
use Rattle.format.specs.Unpacking.{places_of}
use Rattle.format.specs.Packing.{but_last, length_codes, value_string, template_of, payload_of}
use Rattle.format.specs.declared.Group.{Group}
use Rattle.format.specs.declared.Places.{Places}
use Rattle.format.specs.declared.Refusal.TheVariants.{Room}
use Rattle.format.specs.declared.Template.{Template}
use Rattle.std.specs.declared.result.Result.TheVariants.{Ok, Err}
use Rattle.laws.specs.Lists.{get_or-listed}
use Rattle.laws.specs.Spans.{span-aligned}
use Rattle.laws.specs.Stores.{sets-append, sets-front}
use Rattle.laws.specs.Codes.{but-last-snoc}
use Rattle.laws.specs.Groups.{group_in, own_numbers, own_groups, Sound, length-own}
use Rattle.laws.specs.Accepting.{Passing}
use Rattle.laws.specs.Saying.{part-size}
use Rattle.laws.specs.Codings.{payload-length, list-coded, list-passing, reference-fits, width-coded, length-coded, list_steps}
use Rattle.writer.proofs.Lent.{lent-refused, lent_written}
use Rattle.numbers.specs.Records.{IsAt, Recorded}
use Rattle.numbers.proofs.Recordings.{own-numbers, octets, stored, stored-sound}
use Rattle.section7.specs.Parts.{Codable, value_bits, payload_lent}
use Rattle.section7.specs.declared.Coding.TheVariants as coding
use Rattle.section7.proofs.Values.{size-string}

sets_then : (lent xs ys : List ℕ) {p q : List ℕ} {at : ℕ} → p ≡ sets lent 0 xs → q ≡ sets p at ys → at ≡ length xs → q ≡ sets lent 0 (xs ++ ys)
sets_then lent xs ys ep eq ea = eq ∙ ap₂ (λ (p : List ℕ) (i : ℕ). sets p i ys) ep (ea ∙ sym (zero-add (length xs))) ∙ sets-append lent 0 xs ys

-- behind the codes stands none, or the 0 of the last length
none-behind : (bits : ℕ) → any_of (leb (2 ^ bits)) [] ≡ false
unfolding any_of
none-behind bits = refl

zero-behind : (bits : ℕ) → any_of (leb (2 ^ bits)) (0 ∷ []) ≡ false
unfolding any_of
zero-behind bits = let p : 0 < 2 ^ bits = omega (arith, pow_mono {i = 0} {j = bits} (omega arith)) in rw (lt-leb (2 ^ bits) 0 p)

-- the codes of the lengths: those of all but the last, and 0
module _ (t : Template) (groups : List Group) (some : 0 < length groups) where
  abbrev pub length-code : Group → ℕ
  length-code g = (g.length - t.lengths.reference) / t.lengths.increment

  but-last-lengths : but_last (map (λ g. g.length) groups) ≡ map (λ g. g.length) (take (length groups - 1) groups)
  but-last-lengths =
      let d = group_in [] 0 in
      let k = length groups - 1 in
      let e : map (λ g. g.length) groups ≡ map (λ g. g.length) (take k groups) ++ ((get_or groups k d).length ∷ []) = ap (map (λ g. g.length)) (sym (take_all (k + 1) groups (omega arith))) ∙ map_more (λ g. g.length) groups k d (omega arith) in
      ap but_last e ∙ but-last-snoc (map (λ g. g.length) (take k groups)) (get_or groups k d).length

module _ {t : Template} {numbers : List ℕ} {groups : List Group} (h : Recorded numbers groups) (e : t ≡ template_of numbers (own_groups numbers groups)) where
  abbrev own : List (List ℕ)
  own = own_groups numbers groups

  abbrev sound : Sound numbers (octets h) (length groups)
  sound = stored-sound h

  -- a group, as it stands in octets of its own
  at-own : (k : ℕ) {g : Group} → k < length groups → IsAt groups k g → group_in (octets h) k ≡ g
  at-own k {g} l i = sym (get_or-listed (length groups) (group_in (octets h)) g k l) ∙ ap (λ (gs : List Group). get_or gs k g) (stored h) ∙ sym (i g)

  pub passing : Passing t
  passing = rw e (rw (stored h) at (list-passing sound))

  counted : t.groups ≡ length groups
  counted = ap (λ (u : Template). u.groups) e ∙ rw (stored h) at ((list-coded sound).count) ∙ length-map groups (own_numbers numbers)

  end_is : (places_of 0 t (value_bits groups)).end.0 ≡ length (payload_of t own)
  end_is =
      ap (λ (b : ℕ). (places_of 0 t b).end.0) (sym (size-string numbers groups h.each))
      ∙ sym (payload-length numbers own t (counted ∙ sym (length-map groups (own_numbers numbers))) (rw length-map h.some))

  -- ---- what the parts are

  references-are : map (λ g. g.least) groups ≡ map least own
  references-are = own-numbers numbers (λ g. g.least) least (λ r s. s.least) groups h.each

  widths-are : map (λ g. g.width - t.widths.reference) groups ≡ map (λ group. width_of group - t.widths.reference) own
  widths-are = own-numbers numbers (λ g. g.width - t.widths.reference) (λ group. width_of group - t.widths.reference) (λ r s. ap (λ (w : ℕ). w - t.widths.reference) s.width) groups h.each

  -- "The last length code is written 0."
  lengths-are : map (length-code t groups h.some) (take (length groups - 1) groups) ++ (0 ∷ []) ≡ length_codes t.lengths (map length own)
  unfolding length_codes
  lengths-are =
      let code : ℕ → ℕ = λ x. (x - t.lengths.reference) / t.lengths.increment in
      let same : map length own ≡ map (λ g. g.length) groups = sym (own-numbers numbers (λ g. g.length) length (λ r s. sym (length-own s)) groups h.each) in
      ap (λ (xs : List ℕ). xs ++ (0 ∷ [])) (sym (ap (map code) (ap but_last same ∙ but-last-lengths t groups h.some) ∙ map-map code (λ g. g.length) (take (length groups - 1) groups)))

  -- ---- their codes fit

  references-codable : Codable (coding.References t.width) groups
  references-codable = record {
    top = omega (arith, passing.width);
    coded = λ k g l i. tt;
    fit = λ k g l i. rw (stored h, ap (λ (r : Group). r.least) (at-own k l i), ← e) at (reference-fits sound k l);
  }

  pub references-written : 0 < t.width → Codable (coding.References t.width) groups × (any_of (leb (2 ^ t.width)) [] ≡ false)
  references-written b = (references-codable, none-behind t.width)

  width-there : (k : ℕ) (g : Group) → k < length groups → IsAt groups k g → (t.widths.reference ≤ g.width) × (g.width - t.widths.reference < 2 ^ t.widths.bits)
  width-there k g l i = simp (stored h, ap (λ (r : Group). r.width) (at-own k l i), sym e) at (width-coded sound k l)

  pub widths-written : 0 < t.widths.bits → Codable (coding.Widths t.widths) groups × (any_of (leb (2 ^ t.widths.bits)) [] ≡ false)
  widths-written b = (record { top = omega (arith, passing.widths); coded = λ k g l i. (width-there k g l i).0; fit = λ k g l i. (width-there k g l i).1 }, none-behind t.widths.bits)

  module _ {most : List Group} (em : most ≡ take (length groups - 1) groups) where
    length-there : (k : ℕ) (g : Group) → k < length most → IsAt most k g → (t.lengths.reference ≤ g.length) × ((g.length - t.lengths.reference) / t.lengths.increment < 2 ^ t.lengths.bits)
    length-there k g l i =
        let m : k < length groups - 1 = omega (arith, ap length em, length-take (length groups - 1) groups) in
        let j : IsAt groups k g = λ d. i d ∙ ap (λ (gs : List Group). get_or gs k d) em ∙ get_or-take (length groups - 1) groups k d m in
        simp (stored h, ap (λ (r : Group). r.length) (at-own k (omega arith) j), sym e) at (length-coded sound k m)

    pub lengths-written : 0 < t.lengths.bits → Codable (coding.Lengths t.lengths) most × (any_of (leb (2 ^ t.lengths.bits)) (0 ∷ []) ≡ false)
    lengths-written b = (
      record {
        top = omega (arith, passing.lengths);
        coded = λ k g l i. ((length-there k g l i).0, rw (stored h, ← e) at (list_steps sound) b);
        fit = λ k g l i. (length-there k g l i).1;
      },
      zero-behind t.lengths.bits,
    )

  -- ---- at their places

  module _ {b : ℕ} (eb : b ≡ value_bits groups) {places : Places} (at : places ≡ places_of 0 t b) where
    size_is : places.end.0 ≡ length (payload_of t own)
    size_is = ap (λ (p : Places). p.end.0) at ∙ ap (λ (n : ℕ). (places_of 0 t n).end.0) eb ∙ end_is

    module _ {long : ℕ} (room : places.end.0 ≤ long) where
      -- each part has room where the whole has
      pub references-room : places.references.0 + rounded_up ((length groups + 0) * t.width) ≤ long
      unfolding places_of widths_at lengths_at values_at
      references-room = let m = rw (at, counted) at room in rw (add-zero (length groups), at) (omega (arith, span-aligned t.width (length groups)))

      pub widths-room : places.widths.0 + rounded_up ((length groups + 0) * t.widths.bits) ≤ long
      unfolding places_of widths_at lengths_at values_at
      widths-room = let m = rw (at, counted) at room in rw (add-zero (length groups), at, counted) (omega (arith, span-aligned t.widths.bits (length groups)))

      pub lengths-room : {most : List Group} → most ≡ take (length groups - 1) groups → places.lengths.0 + rounded_up ((length most + 1) * t.lengths.bits) ≤ long
      unfolding places_of widths_at lengths_at values_at
      lengths-room {most} em =
          let all : length most + 1 ≡ length groups = omega (arith, ap length em, length-take (length groups - 1) groups, h.some) in
          let m = rw (at, counted) at room in rw (all, at, counted) (omega (arith, span-aligned t.lengths.bits (length groups)))

      pub values-room : places.values.0 + rounded_up (value_bits groups) ≤ long
      unfolding places_of
      values-room = let m = rw at at room in rw (at, ← eb) (omega arith)

    pub payload-refused : (lent : List ℕ) → length lent < places.end.0 → left (Err Room) lent ≡ payload_lent (payload_of t own) lent
    payload-refused lent l = lent-refused (payload_of t own) lent size_is l

    module _ (lent : List ℕ) (room : places.end.0 ≤ length lent) where
      pub payload-written : {p₁ : List ℕ} → p₁ ≡ sets lent places.references.0 (padded (string_of t.width (map (λ g. g.least) groups ++ [])))
          → {p₂ : List ℕ} → p₂ ≡ sets p₁ places.widths.0 (padded (string_of t.widths.bits (map (λ g. g.width - t.widths.reference) groups ++ [])))
          → {most : List Group} → most ≡ take (length groups - 1) groups
          → {p₃ : List ℕ} → p₃ ≡ sets p₂ places.lengths.0 (padded (string_of t.lengths.bits (map (length-code t groups h.some) most ++ (0 ∷ []))))
          → {p₄ : List ℕ} → p₄ ≡ sets p₃ places.values.0 (padded (value_string own))
          → left (Ok places.end) p₄ ≡ payload_lent (payload_of t own) lent
      unfolding places_of widths_at lengths_at values_at payload_of
      payload-written e₁ e₂ em e₃ e₄ =
          let a = padded (string_of t.width (map least own)) in
          let b = padded (string_of t.widths.bits (map (λ group. width_of group - t.widths.reference) own)) in
          let c = padded (string_of t.lengths.bits (length_codes t.lengths (map length own))) in
          let d = padded (value_string own) in
          let count = length-map groups (own_numbers numbers) in
          let size-a = part-size t.width (map least own) (length-map own least ∙ count ∙ sym counted) in
          let size-b = part-size t.widths.bits (map (λ group. width_of group - t.widths.reference) own) (length-map own (λ group. width_of group - t.widths.reference) ∙ count ∙ sym counted) in
          let many : length (length_codes t.lengths (map length own)) ≡ t.groups =
          ap length (sym lengths-are) ∙ length-append (map (length-code t groups h.some) (take (length groups - 1) groups)) (0 ∷ [])
          ∙ omega (arith, length-map (take (length groups - 1) groups) (length-code t groups h.some), length-take (length groups - 1) groups, h.some, counted) in
          let size-c = part-size t.lengths.bits (length_codes t.lengths (map length own)) many in
          let one : _ ≡ sets lent 0 a = rw (at, append-nil, references-are) at e₁ in
          let two = sets_then lent a b one (rw (append-nil, widths-are) at e₂) (rw at (omega (arith, size-a))) in
          let three = sets_then lent (a ++ b) c two (rw (em, lengths-are) at e₃) (rw at (omega (arith, size-a, size-b, length-append a b))) in
          let four = sets_then lent (a ++ b ++ c) d three e₄ (rw at (omega (arith, size-a, size-b, size-c, length-append a b, length-append (a ++ b) c))) in
          lent_written (payload_of t own) lent size_is room (four ∙ sets-front lent (payload_of t own) (omega (arith, size_is)))
