-- The laws of a written field, for all widths together, whatever the bits after it are. Assumes nothing.
use Rattle.std.specs.Prelude.{◌≡◌, refl, false, List, [], ◌++◌, ℕ, zero, suc, ◌+◌, ◌*◌, ◌/◌, ◌^◌, ◌≤◌, ◌<◌, leb, length, get_or, drop}
use Rattle.std.proofs.Common.{sym, ap, ◌∙◌, mod-eq_of_lt, zero-mul, suc-mul, mul-le-mul_right, arith, length-append, ext_get_or, drop_at, leb-false}
use Rattle.std.proofs.Math.ListN.{get_or-append, get_or-eq_default}
use Rattle.format.specs.Lists.{listed, any_of}
use Rattle.format.specs.Bits.{bit_in, bit_at, number_of, number_at, field_of, bit, string_of, octets_of, span_of, written_bits, written}
use Rattle.laws.specs.Lists.{length-listed, get_or-listed, any_none}
use Rattle.laws.specs.Bits.{Bits, bit-lt, number-ext, bit-listed}
use Rattle.laws.specs.Strings.{bits-listed, bits-append, bits-string, length-string, number-own}
use Rattle.laws.specs.Spans.{span_none, span-some}

-- numbers of which none is too large for the width
pub fits_each : (w : ℕ) (xs : List ℕ) → any_of (leb (2 ^ w)) xs ≡ false → (k : ℕ) → k < length xs → get_or xs k 0 < 2 ^ w
fits_each w xs h k l = leb-false (2 ^ w) (get_or xs k 0) (any_none (leb (2 ^ w)) xs 0 h k l)

module _ (rest lent : List ℕ) (s w : ℕ) (xs : List ℕ) where
  length-written : length (written_bits rest lent s w xs) ≡ s + length xs * w + length rest
  length-written =
      length-append (listed s (bit_at lent) ++ string_of w xs) rest
      ∙ omega (arith, length-append (listed s (bit_at lent)) (string_of w xs), length-listed s (bit_at lent), length-string w xs)

  -- where there is no bit nothing is written
  written_none : length xs * w ≡ 0 → lent ≡ written rest lent s w xs
  unfolding listed
  written_none h = rw (span_none s w (length xs) h)

  pub written-empty : length xs ≡ 0 → lent ≡ written rest lent s w xs
  written-empty h = written_none (rw h (zero-mul w))

  -- the octets after the span are as they were
  pub written_after : drop (span_of s w (length xs)) (written rest lent s w xs) ≡ drop (span_of s w (length xs)) lent
  written_after =
      let n = span_of s w (length xs) in
      drop_at (octets_of (written_bits rest lent s w xs) n) _ n (length-listed n _)
      ∙ ap (λ (m : ℕ). drop m lent) (length-listed n (λ j. number_of (bit (written_bits rest lent s w xs)) (j * 8) 8))

  module _ (h : Bits (bit rest)) where
    -- the bits of the span are those that were meant
    pub written-bit : (i : ℕ) → i < span_of s w (length xs) * 8 → bit_at (written rest lent s w xs) i ≡ bit (written_bits rest lent s w xs) i
    unfolding bit_in
    written-bit i l =
        let n = span_of s w (length xs) in
        let all : Bits (bit (written_bits rest lent s w xs)) = bits-append (listed s (bit_at lent) ++ string_of w xs) rest (bits-append (listed s (bit_at lent)) (string_of w xs) (bits-listed s (bit_at lent) (bit-lt 8 lent)) (bits-string w xs)) h in
        rw (get_or-append (octets_of (written_bits rest lent s w xs) n) _ 0 (i / 8) (omega (arith, length-listed n (λ j. number_of (bit (written_bits rest lent s w xs)) (j * 8) 8))))
        (bit-listed all n i l)

    -- the bits before the start are as they were
    pub written-before : (i : ℕ) → i < s → bit_at (written rest lent s w xs) i ≡ bit_at lent i
    written-before i l = by_size (length xs * w) refl
      where
        by_size : (n : ℕ) → length xs * w ≡ n → bit_at (written rest lent s w xs) i ≡ bit_at lent i
        by_size zero e = ap (λ (o : List ℕ). bit_at o i) (sym (written_none e))
        by_size (suc n) e =
            written-bit i (omega (arith, span-some s w (length xs) (omega arith)))
            ∙ get_or-append (listed s (bit_at lent) ++ string_of w xs) rest 0 i (omega (arith, length-append (listed s (bit_at lent)) (string_of w xs), length-listed s (bit_at lent)))
            ∙ get_or-append (listed s (bit_at lent)) (string_of w xs) 0 i (omega (arith, length-listed s (bit_at lent)))
            ∙ get_or-listed s (bit_at lent) 0 i l

    -- and what was written is read back
    pub read-written : any_of (leb (2 ^ w)) xs ≡ false → field_of (written rest lent s w xs) s w (length xs) ≡ xs
    read-written fit = ext_get_or 0 _ xs (length-listed _ _) (λ k l. at k (rw length-listed at l))
      where
        at : (k : ℕ) → k < length xs → get_or (field_of (written rest lent s w xs) s w (length xs)) k 0 ≡ get_or xs k 0
        at k l =
            get_or-listed (length xs) (λ i. number_at (written rest lent s w xs) (s + i * w) w) 0 k l
            ∙ number-ext (bit_at (written rest lent s w xs)) (bit (written_bits rest lent s w xs)) (s + k * w) (s + k * w) w
            (λ i m. written-bit (s + k * w + i) (omega (arith, span-some s w (length xs) (omega (arith, mul-le-mul_right w l, suc-mul k w)), mul-le-mul_right w l, suc-mul k w)))
            ∙ ap (λ (p : ℕ). number_of (bit (written_bits rest lent s w xs)) (p + k * w) w) (sym (length-listed s (bit_at lent)))
            ∙ number-own (listed s (bit_at lent)) w xs rest k l
            ∙ mod-eq_of_lt (fits_each w xs fit k l)

-- where nothing is meant after the field, the rest of its last octet is zero
pub written-cleared : (lent : List ℕ) (s w : ℕ) (xs : List ℕ) (i : ℕ) → s + length xs * w ≤ i → i < span_of s w (length xs) * 8
    → bit_at (written [] lent s w xs) i ≡ 0
written-cleared lent s w xs i h l =
    written-bit [] lent s w xs (λ j. omega arith) i l
    ∙ get_or-eq_default (written_bits [] lent s w xs) 0 (omega (arith, length-written [] lent s w xs))
