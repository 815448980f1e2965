-- The laws of bit fields, for all widths together. Assumes nothing.
use Rattle.std.specs.Prelude.{◌≡◌, List, ◌++◌, get_or}
use Rattle.std.proofs.Math.Path.{refl}
use Rattle.std.proofs.Common.{sym, ap, ap₂, ◌∙◌, mul_assoc, pow-suc, mul-one, add_assoc, add-zero, add-suc, zero-add, zero-lt-suc, mod-lt, mod-eq_of_lt, div-one, div-add-mod', lt_of_lt_of_le, mul-le-mul, add-mul, arith, pow_mono, shr-shr}
use Prim.Native.Nat.{ℕ, zero, suc, ◌+◌, ◌-◌, ◌*◌, ◌/◌, ◌%◌, ◌^◌, ◌≤◌, ◌<◌}
use Rattle.std.proofs.Math.Nat.{pow-zero, mod-one, sub_self}
use Rattle.std.proofs.Math.Numerals.{add-one}
use Rattle.std.proofs.Math.Arith.{digits_div, digits_mod}
use Rattle.std.proofs.Math.Pow.{high, low}
use Rattle.std.proofs.lemmas.Nat.{mod-pow-add}
use Rattle.format.specs.Lists.{listed}
use Rattle.format.specs.Bits.{bit_in, number_of, field_of}
use Rattle.laws.specs.Lists.{get_or-listed, listed-ext, listed-add}

-- f is a source of bits
abbrev pub Bits : (ℕ → ℕ) → Type 0
Bits f = (i : ℕ) → f i < 2

-- a bound on a product
pub product : (a b m n : ℕ) → a ≤ m → b ≤ n → a * b ≤ m * n
product a b m n h l = mul-le-mul h l

-- ---- what a number depends on

-- its own bits alone
pub number-ext : (f g : ℕ → ℕ) (p q w : ℕ) → ((i : ℕ) → i < w → f (p + i) ≡ g (q + i)) → number_of f p w ≡ number_of g q w
unfolding number_of
number-ext f g p q zero h = refl
number-ext f g p q (suc w) h =
    ap₂ (λ (x y : ℕ). x * 2 + y) (number-ext f g p q w (λ i l. h i (omega arith))) (h w (omega arith))

-- and a field on the bits of its numbers
pub field-ext : (octets others : List ℕ) (p q w n : ℕ)
    → ((k i : ℕ) → k < n → i < w → bit_in 8 octets (p + k * w + i) ≡ bit_in 8 others (q + k * w + i))
    → field_of octets p w n ≡ field_of others q w n
field-ext octets others p q w n h =
    listed-ext n _ _ (λ k l. number-ext (bit_in 8 octets) (bit_in 8 others) (p + k * w) (q + k * w) w (λ i m. h k i l m))

-- a field of m + n numbers is one of m, and one of n behind it
pub field-add : (octets : List ℕ) (p w m n : ℕ) → field_of octets p w (m + n) ≡ field_of octets p w m ++ field_of octets (p + m * w) w n
field-add octets p w m n =
    listed-add m n (λ k. number_of (bit_in 8 octets) (p + k * w) w)
    ∙ ap (λ (l : List ℕ). field_of octets p w m ++ l)
    (listed-ext n _ _ (λ i l. ap (λ (q : ℕ). number_of (bit_in 8 octets) q w) (omega (arith, add-mul m i w))))

-- ---- numbers and parts of numbers

-- a number of a + b bits is that of the first a and that of the last b
pub number-add : (f : ℕ → ℕ) (p a b : ℕ) → number_of f p (a + b) ≡ number_of f p a * 2 ^ b + number_of f (p + a) b
unfolding number_of
number-add f p a zero = rw (add-zero a, pow-zero, mul-one) (omega arith)
number-add f p a (suc b) =
    rw (add-suc a b, pow-suc, ← mul_assoc, ← add_assoc p a b) (omega (arith, number-add f p a b))

pub number_lt : {f : ℕ → ℕ} → Bits f → (p w : ℕ) → number_of f p w < 2 ^ w
unfolding number_of
number_lt h p zero = zero-lt-suc 0
number_lt h p (suc w) = rw pow-suc (omega (arith, h (p + w), number_lt h p w))

-- a number of at most b bits is below 2 to the b
pub number-below : {f : ℕ → ℕ} → Bits f → (p w b : ℕ) → w ≤ b → number_of f p w < 2 ^ b
number-below h p w b l = lt_of_lt_of_le (number_lt h p w) (pow_mono l)

-- b bits in the midst of a number
pub number-mid : {f : ℕ → ℕ} → Bits f → (p a b c : ℕ) → number_of f p (a + b + c) / 2 ^ c % 2 ^ b ≡ number_of f (p + a) b
number-mid {f} h p a b c =
    ap (λ (x : ℕ). x / 2 ^ c % 2 ^ b) (number-add f p (a + b) c)
    ∙ ap (λ (x : ℕ). x % 2 ^ b) (high (number_of f p (a + b)) c (number_lt h (p + (a + b)) c) ∙ number-add f p a b)
    ∙ low (number_of f p a) b (number_lt h (p + a) b)

-- bit j of a number of w bits
pub number_bit : {f : ℕ → ℕ} → Bits f → (p w j : ℕ) → j < w → number_of f p w / 2 ^ (w - suc j) % 2 ≡ f (p + j)
unfolding number_of
number_bit {f} h p w j l =
    let e : j + 1 + (w - suc j) ≡ w = omega arith in
    ap (λ (n : ℕ). number_of f p n / 2 ^ (w - suc j) % 2) (sym e) ∙ number-mid h p j 1 (w - suc j) ∙ simp (add-zero, zero-add)

-- w bits of x from its bit s on, of the v that it is written with
pub number-window : (x v s w : ℕ) → s + w ≤ v → number_of (λ i. x / 2 ^ (v - suc i) % 2) s w ≡ x / 2 ^ (v - (s + w)) % 2 ^ w
unfolding number_of
number-window x v s zero h = sym (mod-one (x / 2 ^ (v - (s + 0))))
number-window x v s (suc w) h =
    let e : ℕ = v - suc (s + w) in
    let e₁ : v - (s + suc w) ≡ e = omega arith in
    let e₂ : e + 1 ≡ v - (s + w) = omega arith in
    cc (number-window x v s w (omega arith), mod-pow-add (x / 2 ^ e) w 1, shr-shr x e 1, add-one w)

-- past where all bits are zero there is zero
pub number-zero : (f : ℕ → ℕ) (p w : ℕ) → ((i : ℕ) → i < w → f (p + i) ≡ 0) → number_of f p w ≡ 0
unfolding number_of
number-zero f p zero h = refl
number-zero f p (suc w) h = omega (arith, h w (omega arith), number-zero f p w (λ i l. h i (omega arith)))

-- ---- numbers that stand end to end

pub bit-lt : (w : ℕ) (xs : List ℕ) → Bits (bit_in w xs)
unfolding bit_in
bit-lt w xs i = mod-lt (get_or xs (i / w) 0 / 2 ^ (w - suc (i % w))) (zero-lt-suc 1)

-- bit i of number k
pub bit-in : (w : ℕ) (xs : List ℕ) (k i : ℕ) → i < w → bit_in w xs (k * w + i) ≡ get_or xs k 0 / 2 ^ (w - suc i) % 2
unfolding bit_in
bit-in w xs k i l = rw (digits_div, digits_mod)

-- number k of the numbers xs of width w
pub number_in : (xs : List ℕ) (w k : ℕ) → number_of (bit_in w xs) (k * w) w ≡ get_or xs k 0 % 2 ^ w
number_in xs w k =
    number-ext (bit_in w xs) (λ i. get_or xs k 0 / 2 ^ (w - suc i) % 2) (k * w) 0 w (λ i l. rw zero-add (bit-in w xs k i l))
    ∙ number-window (get_or xs k 0) w 0 w (omega arith) ∙ simp (zero-add, sub_self, pow-zero, div-one)

-- ---- octets

pub octet : (octets : List ℕ) (k : ℕ) → get_or octets k 0 < 256 → number_of (bit_in 8 octets) (k * 8) 8 ≡ get_or octets k 0
octet octets k h = number_in octets 8 k ∙ mod-eq_of_lt h

-- one octet more
pub number-octet : (octets : List ℕ) (at k : ℕ) → get_or octets (at + k) 0 < 256
    → number_of (bit_in 8 octets) (at * 8) (k * 8) * 256 + get_or octets (at + k) 0 ≡ number_of (bit_in 8 octets) (at * 8) ((k + 1) * 8)
number-octet octets at k h =
    rw (add-mul k 1 8, number-add (bit_in 8 octets) (at * 8) (k * 8) 8, ← add-mul at k 8, octet octets (at + k) h)

-- n octets from a place on, gathered into one number
unfoldable pub gathered : List ℕ → ℕ → ℕ → ℕ
gathered octets at zero = 0
gathered octets at (suc n) = gathered octets at n * 256 + get_or octets (at + n) 0

-- octets, as their type has them
abbrev pub Octets : List ℕ → Type 0
Octets octets = (k : ℕ) → get_or octets k 0 < 256

module _ (octets : List ℕ) (o : Octets octets) (at : ℕ) where
  -- what is gathered is the number that all their bits make
  pub gathered-bits : (n : ℕ) → gathered octets at n ≡ number_of (bit_in 8 octets) (at * 8) (n * 8)
  unfolding gathered number_of
  gathered-bits zero = refl
  gathered-bits (suc n) = rw (gathered-bits n, ← add-one n) (number-octet octets at n (o (at + n)))

  -- "then shift once and take a remainder": any octets that cover the number give it, however many are gathered. It starts at
  -- bit s of the first of them.
  pub number_read : (n s w : ℕ) → s + w ≤ n * 8 → gathered octets at n / 2 ^ (n * 8 - s - w) % 2 ^ w ≡ number_of (bit_in 8 octets) (at * 8 + s) w
  number_read n s w h =
      let c : ℕ = n * 8 - s - w in
      let e : n * 8 ≡ s + w + c = omega arith in
      rw (gathered-bits n) (ap (λ (m : ℕ). number_of (bit_in 8 octets) (at * 8) m / 2 ^ c % 2 ^ w) e ∙ number-mid (bit-lt 8 octets) (at * 8) s w c)

-- the bits of octets that are made of a source of bits are that source's
pub bit-listed : {f : ℕ → ℕ} → Bits f → (n i : ℕ) → i < n * 8 → bit_in 8 (listed n (λ k. number_of f (k * 8) 8)) i ≡ f i
unfolding bit_in
bit-listed {f} h n i l =
    rw (get_or-listed n (λ k. number_of f (k * 8) 8) 0 (i / 8) (omega arith))
    (number_bit h (i / 8 * 8) 8 (i % 8) (omega arith) ∙ ap f (div-add-mod' i 8))
