-- What stands in a part of a payload is read back, whatever stands before the part and after it. Assumes nothing.
use Rattle.std.specs.Prelude.{◌≡◌, length, get_or, take, drop}
use Rattle.std.proofs.Math.Path.{refl, ap, ap₂}
use Rattle.std.proofs.Common.{◌∙◌, add-zero, mod-eq_of_lt, zero-lt-suc, mul-le-mul_right, suc-mul, length-append, ext_get_or, take-suc}
use mathlib.Core.List.{List, [], ◌∷◌, ◌++◌, append_assoc, append-nil, flat_map}
use Prim.Native.Nat.{ℕ, zero, suc, ◌+◌, ◌*◌, ◌/◌, ◌^◌, ◌≤◌, ◌<◌}
use Rattle.std.proofs.Math.Nat.{mul-add-div_right, mul-add-mod_self_right}
use native.Mathlib.Omega.{arith}
use Rattle.std.proofs.Math.ListN.{get_or-append}
use Rattle.std.proofs.Math.Seq.{get_or-append-add}
use Rattle.format.specs.Lists.{total}
use Rattle.format.specs.Bits.{bit_in, bit_at, number_at, field_of, bit, string_of, rounded_up, padded}
use Rattle.laws.specs.Lists.{length-listed, get_or-listed}
use Rattle.laws.specs.Bits.{Bits, bit-listed, number-ext}
use Rattle.laws.specs.Strings.{bits-append, bits-string, length-string, length-padded, number-own}
use Rattle.laws.specs.Stores.{flat_append}

-- numbers that fit a width
abbrev pub Fit : ℕ → List ℕ → Type 0
Fit w xs = (k : ℕ) → k < length xs → get_or xs k 0 < 2 ^ w

-- ---- one part

module _ (front rest : List ℕ) where
  -- the bits of octets that others stand before and after
  bit-between : (octets : List ℕ) (i : ℕ) → i < length octets * 8 → bit_at (front ++ octets ++ rest) (length front * 8 + i) ≡ bit_at octets i
  unfolding bit_in
  bit-between octets i l =
      rw (
        mul-add-div_right (zero-lt-suc 7) (length front) i,
        mul-add-mod_self_right (length front) 8 i,
        append_assoc front octets rest,
        get_or-append-add front (octets ++ rest) (i / 8) 0,
        get_or-append octets rest 0 (i / 8) (omega arith),
      )

  -- numbers of one width, in a string of bits that is padded: the string a comes before them, the string b after
  pub field_back : (a : List ℕ) (w : ℕ) (xs b : List ℕ) → Bits (bit a) → Bits (bit b) → Fit w xs
      → field_of (front ++ padded (a ++ string_of w xs ++ b) ++ rest) (length front * 8 + length a) w (length xs) ≡ xs
  field_back a w xs b ha hb fit = ext_get_or 0 _ xs (length-listed (length xs) _) (λ k l. at k (rw length-listed at l))
    where
      string : List ℕ
      string = a ++ string_of w xs ++ b

      octets : List ℕ
      octets = front ++ padded string ++ rest

      bits : Bits (bit string)
      bits = bits-append (a ++ string_of w xs) b (bits-append a (string_of w xs) ha (bits-string w xs)) hb

      long : length string ≡ length a + length xs * w + length b
      long = length-append (a ++ string_of w xs) b ∙ omega (arith, length-append a (string_of w xs), length-string w xs)

      own : (i : ℕ) → i < length string → bit_at octets (length front * 8 + i) ≡ bit string i
      own i l = bit-between (padded string) i (omega (arith, length-padded string)) ∙ bit-listed bits (rounded_up (length string)) i (omega arith)

      at : (k : ℕ) → k < length xs → get_or (field_of octets (length front * 8 + length a) w (length xs)) k 0 ≡ get_or xs k 0
      at k l =
          get_or-listed (length xs) (λ i. number_at octets (length front * 8 + length a + i * w) w) 0 k l
          ∙ number-ext (bit_at octets) (bit string) (length front * 8 + length a + k * w) (length a + k * w) w
          (λ i m.
          let p : length front * 8 + length a + k * w + i ≡ length front * 8 + (length a + k * w + i) = omega arith in
          ap (bit_at octets) p ∙ own (length a + k * w + i) (omega (arith, long, mul-le-mul_right w l, suc-mul k w)))
          ∙ number-own a w xs b k l ∙ mod-eq_of_lt (fit k l)

  -- none before them
  pub field-first : (w : ℕ) (xs b : List ℕ) → Bits (bit b) → Fit w xs → field_of (front ++ padded (string_of w xs ++ b) ++ rest) (length front * 8) w (length xs) ≡ xs
  field-first w xs b hb fit = rw add-zero at (field_back [] w xs b (λ i. omega arith) hb fit)

  -- nor after
  pub field-alone : (w : ℕ) (xs : List ℕ) → Fit w xs → field_of (front ++ padded (string_of w xs) ++ rest) (length front * 8) w (length xs) ≡ xs
  field-alone w xs fit = rw append-nil at (field-first w xs [] (λ i. omega arith) fit)

-- ---- values of many groups, each of a width of its own, with no alignment between them

module _ {A : Type 0} (wide : A → ℕ) (values : A → List ℕ) where
  abbrev pub value_bits : A → List ℕ
  value_bits group = string_of (wide group) (values group)

  bits-flat : (groups : List A) → Bits (bit (flat_map value_bits groups))
  unfolding flat_map
  bits-flat [] i = omega arith
  bits-flat (group ∷ groups) i = bits-append (value_bits group) (flat_map value_bits groups) (bits-string (wide group) (values group)) (bits-flat groups) i

  module _ (d : A) where
    -- the values of all groups, those of one group by themselves
    all_but_one : (groups : List A) (g : ℕ) → g < length groups
        → flat_map value_bits groups ≡ flat_map value_bits (take g groups) ++ value_bits (get_or groups g d) ++ flat_map value_bits (drop (suc g) groups)
    unfolding flat_map
    all_but_one [] g l = absurd (omega arith)
    all_but_one (group ∷ groups) zero l = refl
    all_but_one (group ∷ groups) (suc g) l =
        ap (λ (s : List ℕ). value_bits group ++ s) (all_but_one groups g (omega arith)) ∙ simp append_assoc

    -- the bits of those before it
    pub bits_of : (groups : List A) (g : ℕ) → g ≤ length groups
        → length (flat_map value_bits (take g groups)) ≡ total g (λ k. length (values (get_or groups k d)) * wide (get_or groups k d))
    unfolding flat_map total
    bits_of groups zero l = refl
    bits_of groups (suc g) l =
        rw (take-suc groups g d l, flat_append value_bits (take g groups) (get_or groups g d ∷ []), append-nil (value_bits (get_or groups g d)))
        (length-append (flat_map value_bits (take g groups)) (value_bits (get_or groups g d))
        ∙ ap₂ (λ (m n : ℕ). m + n) (bits_of groups g (omega arith)) (length-string (wide (get_or groups g d)) (values (get_or groups g d))))

    pub values-back : (front rest : List ℕ) (groups : List A) (g : ℕ) → g < length groups → Fit (wide (get_or groups g d)) (values (get_or groups g d))
        → field_of (front ++ padded (flat_map value_bits groups) ++ rest) (length front * 8 + total g (λ k. length (values (get_or groups k d)) * wide (get_or groups k d)))
        (wide (get_or groups g d)) (length (values (get_or groups g d))) ≡ values (get_or groups g d)
    values-back front rest groups g l fit =
        let group = get_or groups g d in
        rw (all_but_one groups g l, ← bits_of groups g (omega arith))
        (field_back front rest (flat_map value_bits (take g groups)) (wide group) (values group) (flat_map value_bits (drop (suc g) groups)) (bits-flat (take g groups)) (bits-flat (drop (suc g) groups)) fit)
