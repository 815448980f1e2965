-- Where reading ends, and the first code. Assumes nothing.
use mathlib.Core.Path.{◌≡◌, refl, sym, ap, ◌∙◌}
use mathlib.Core.Bool.{Bool, true, false, ◌||◌, ◌&&◌, or-false, and-false}
use mathlib.Core.List.{List}
use Prim.Native.Nat.{ℕ, zero, suc, ◌+◌, ◌-◌, ◌*◌, ◌≤◌, ◌<◌}
use native.Mathlib.Nat.{div-eq_of_lt, le-div_iff_mul-le, zero-mul, suc-mul}
use native.Mathlib.Omega.{arith}
use lib.Dec.{eqb, ltb}
use borrow.Author.Tests.{lt-ltb, le-ltb, ltb-true, ltb-false}
use lib.ListN.{length}
use Rattle.format.specs.Lists.{listed}
use Rattle.format.specs.Bits.{number_at}
use Rattle.format.specs.RunLength.{whole_codes, codes_up_to, only_padding, stops_before, codes_read, repeats_first}
use Rattle.laws.specs.Lists.{where-is}

-- ---- whole codes

module _ (b : ℕ) (payload : List ℕ) (n : ℕ) (some : 0 < b) where
  whole-there : n * b + b ≤ length payload * 8 → n < whole_codes b payload
  whole-there h = (le-div_iff_mul-le {k = b} {x = suc n} {y = length payload * 8} some).1 (omega (arith, suc-mul n b))

  pub whole-bits : n < whole_codes b payload → n * b + b ≤ length payload * 8
  whole-bits h = omega (arith, suc-mul n b, (le-div_iff_mul-le {k = b} {x = suc n} {y = length payload * 8} some).0 h)

  whole-up-to : n * b ≤ length payload * 8 → n ≤ whole_codes b payload
  whole-up-to h = (le-div_iff_mul-le {k = b} {x = n} {y = length payload * 8} some).1 h

-- ---- padding

-- eight bits and more are none
pub padding-many : (payload : List ℕ) (p : ℕ) → 8 ≤ length payload * 8 - p → false ≡ only_padding payload p
unfolding only_padding
padding-many payload p h = rw (le-ltb (length payload * 8 - p) 8 h)

-- the last bits of the last octet
pub padding-is : (payload : List ℕ) (octet bit : ℕ) {x : ℕ} → length payload ≡ octet + 1 → 0 < bit → bit ≤ 7 → x ≡ number_at payload (octet * 8 + bit) (8 - bit)
    → eqb x 0 ≡ only_padding payload (octet * 8 + bit)
unfolding only_padding
padding-is payload octet bit last some few ex =
    let e : length payload * 8 - (octet * 8 + bit) ≡ 8 - bit = omega arith in
    rw (e, lt-ltb (8 - bit) 8 (omega arith), ex)

-- ---- where reading ends

module _ (payload : List ℕ) (octet bit bits : ℕ) (reached : Bool) where
  -- no whole code is left, or only padding once the count is reached
  abbrev pub ends : Bool
  ends = ltb (length payload * 8) (octet * 8 + bit + bits) || (reached && only_padding payload (octet * 8 + bit))

  -- five octets hold a code, and are no padding
  pub ends-not : octet + 5 ≤ length payload → bit ≤ 7 → bits ≤ 15 → false ≡ ends
  ends-not h l m = rw (le-ltb (length payload * 8) (octet * 8 + bit + bits) (omega arith), ← padding-many payload (octet * 8 + bit) (omega arith), and-false reached)

-- ---- how many codes are read

module _ (b M declared : ℕ) (payload : List ℕ) (n : ℕ) where
  -- reading stops before none of the first n: it ends there, or goes on
  abbrev GoesOn : ℕ → Type 0
  GoesOn m = (i : ℕ) → i < m → stops_before b M declared payload i ≡ false

  pub read-up-to : 0 < b → n * b ≤ length payload * 8 → GoesOn n → (ltb (length payload * 8) (n * b + b) || stops_before b M declared payload n) ≡ true
      → codes_read b M declared payload ≡ n
  unfolding codes_read
  read-up-to some l on h =
      where-is (whole_codes b payload) (stops_before b M declared payload) n (whole-up-to b payload n some l) on
      (λ m. sym (ap (λ (t : Bool). t || stops_before b M declared payload n) (le-ltb (length payload * 8) (n * b + b) (whole-bits b payload n some m))) ∙ h)

  pub goes-on-more : GoesOn n → stops_before b M declared payload n ≡ false → GoesOn (n + 1)
  goes-on-more on h i l = by-test (ltb i n) refl
    where
      by-test : (t : Bool) → ltb i n ≡ t → stops_before b M declared payload i ≡ false
      by-test true m = on i (ltb-true i n m)
      by-test false m = let e : i ≡ n = omega (arith, ltb-false i n m) in rw e h

-- ---- "the first run-length code is a repeat"

module _ (b M : ℕ) (payload : List ℕ) where
  -- which is the first of however many there are
  first_of : (n : ℕ) → 0 < n → ltb M (number_at payload 0 b) ≡ repeats_first M (codes_up_to b payload n)
  unfolding repeats_first listed
  first_of zero h = absurd (omega arith)
  first_of (suc n) h = rw (zero-mul b)

  -- there is none
  pub first-none : {t : Bool} → t ≡ (ltb (length payload * 8) (0 * 8 + 0 + b) || false) → t ≡ true → false ≡ repeats_first M (codes_up_to b payload (whole_codes b payload))
  unfolding repeats_first listed
  first-none e h =
      let short : length payload * 8 < b = omega (arith, ltb-true (length payload * 8) (0 * 8 + 0 + b) (sym (or-false (ltb (length payload * 8) (0 * 8 + 0 + b))) ∙ sym e ∙ h)) in
      rw (div-eq_of_lt {n = length payload * 8} {m = b} short)

  pub first-is : {t : Bool} → 0 < b → t ≡ (ltb (length payload * 8) (0 * 8 + 0 + b) || false) → t ≡ false → ltb M (number_at payload 0 b) ≡ repeats_first M (codes_up_to b payload (whole_codes b payload))
  first-is some e h =
      let long : b ≤ length payload * 8 = omega (arith, ltb-false (length payload * 8) (0 * 8 + 0 + b) (sym (or-false (ltb (length payload * 8) (0 * 8 + 0 + b))) ∙ sym e ∙ h)) in
      first_of (whole_codes b payload) (whole-there b payload 0 some (omega (arith, zero-mul b)))
