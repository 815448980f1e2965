-- The laws of strings of bits, for all widths together. Assumes nothing.
use Rattle.std.specs.Prelude.{◌≡◌, List, [], ◌∷◌, ◌++◌, ℕ, zero, suc, ◌+◌, ◌*◌, ◌/◌, ◌%◌, ◌^◌, ◌≤◌, ◌<◌, length, get_or}
use Rattle.std.proofs.Common.{◌∙◌, append_assoc, add_assoc, add-mul, suc-mul, zero-lt-suc, mul-le-mul_right, mul-zero, not-suc-le-zero, div-lt_iff_lt-mul, arith, length-append}
use Rattle.std.proofs.Math.Nat.{mul-add-div_right, mul-add-mod_self_right}
use Rattle.std.proofs.Math.ListN.{get_or-append, get_or-eq_default}
use Rattle.std.proofs.Math.Seq.{get_or-append-add}
use Rattle.format.specs.Lists.{listed}
use Rattle.format.specs.Bits.{bit_in, number_of, bit, string_of, octets_of, rounded_up, padded}
use Rattle.laws.specs.Lists.{length-listed, get_or-listed, listed-ext, listed-add}
use Rattle.laws.specs.Bits.{Bits, bit-lt, number-ext, number_in, number-zero}

-- ---- the bits of a string

pub bits-listed : (n : ℕ) (f : ℕ → ℕ) → Bits f → Bits (bit (listed n f))
unfolding listed
bits-listed zero f h i = zero-lt-suc 1
bits-listed (suc n) f h zero = h 0
bits-listed (suc n) f h (suc i) = bits-listed n (λ j. f (suc j)) (λ j. h (suc j)) i

pub bits-append : (a b : List ℕ) → Bits (bit a) → Bits (bit b) → Bits (bit (a ++ b))
bits-append [] b ha hb i = hb i
bits-append (x ∷ a) b ha hb zero = ha 0
bits-append (x ∷ a) b ha hb (suc i) = bits-append a b (λ j. ha (suc j)) hb i

pub bits-string : (w : ℕ) (xs : List ℕ) → Bits (bit (string_of w xs))
bits-string w xs = bits-listed (length xs * w) (bit_in w xs) (bit-lt w xs)

pub length-string : (w : ℕ) (xs : List ℕ) → length (string_of w xs) ≡ length xs * w
length-string w xs = length-listed (length xs * w) (bit_in w xs)

-- one that starts on an octet and is padded
pub length-padded : (string : List ℕ) → length (padded string) ≡ rounded_up (length string)
length-padded string = length-listed (rounded_up (length string)) (λ j. number_of (bit string) (j * 8) 8)

-- ---- joined strings

some-width : (n w i : ℕ) → i < n * w → 0 < w
some-width n zero i l = absurd (not-suc-le-zero (rw mul-zero at l))
some-width n (suc w) i l = omega arith

module _ (w : ℕ) (xs ys : List ℕ) where
  bit-front : (i : ℕ) → i < length xs * w → bit_in w (xs ++ ys) i ≡ bit_in w xs i
  unfolding bit_in
  bit-front i l = rw (get_or-append xs ys 0 (i / w) ((div-lt_iff_lt-mul (some-width (length xs) w i l)).1 l))

  bit-later : (i : ℕ) → i < length ys * w → bit_in w (xs ++ ys) (length xs * w + i) ≡ bit_in w ys i
  unfolding bit_in
  bit-later i l =
      let p : 0 < w = some-width (length ys) w i l in
      rw (mul-add-div_right p (length xs) i, mul-add-mod_self_right (length xs) w i, get_or-append-add xs ys (i / w) 0)

  -- fields of one width that stand end to end are one field
  pub string-append : string_of w (xs ++ ys) ≡ string_of w xs ++ string_of w ys
  string-append =
      rw (
        length-append xs ys,
        add-mul (length xs) (length ys) w,
        listed-add (length xs * w) (length ys * w) (bit_in w (xs ++ ys)),
        listed-ext (length xs * w) (bit_in w (xs ++ ys)) (bit_in w xs) bit-front,
        listed-ext (length ys * w) (λ i. bit_in w (xs ++ ys) (length xs * w + i)) (bit_in w ys) bit-later,
      )

-- the bits of a field that a string a comes before and a string b after
pub bit-own : (a : List ℕ) (w : ℕ) (xs b : List ℕ) (i : ℕ) → i < length xs * w → bit (a ++ string_of w xs ++ b) (length a + i) ≡ bit_in w xs i
bit-own a w xs b i l =
    rw append_assoc
    (get_or-append-add a (string_of w xs ++ b) i 0
    ∙ get_or-append (string_of w xs) b 0 i (omega (arith, length-string w xs))
    ∙ get_or-listed (length xs * w) (bit_in w xs) 0 i l)

-- and its numbers
pub number-own : (a : List ℕ) (w : ℕ) (xs b : List ℕ) (k : ℕ) → k < length xs
    → number_of (bit (a ++ string_of w xs ++ b)) (length a + k * w) w ≡ get_or xs k 0 % 2 ^ w
number-own a w xs b k l =
    number-ext (bit (a ++ string_of w xs ++ b)) (bit_in w xs) (length a + k * w) (k * w) w
    (λ i m. rw add_assoc (bit-own a w xs b (k * w + i) (omega (arith, mul-le-mul_right w l, suc-mul k w))))
    ∙ number_in xs w k

-- what comes after a number does not count
pub number-front : (a b : List ℕ) (p w : ℕ) → p + w ≤ length a → number_of (bit (a ++ b)) p w ≡ number_of (bit a) p w
number-front a b p w h = number-ext (bit (a ++ b)) (bit a) p p w (λ i l. get_or-append a b 0 (p + i) (omega arith))

pub octets-front : (a b : List ℕ) (n : ℕ) → n * 8 ≤ length a → octets_of (a ++ b) n ≡ octets_of a n
octets-front a b n h = listed-ext n _ _ (λ j l. number-front a b (j * 8) 8 (omega arith))

-- past its end a string is zero
pub number_past : (a : List ℕ) (p w : ℕ) → length a ≤ p → number_of (bit a) p w ≡ 0
number_past a p w h = number-zero (bit a) p w (λ i l. get_or-eq_default a 0 (omega arith))
