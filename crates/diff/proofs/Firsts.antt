-- The descriptors: first values, and the minimum behind them. Assumes nothing.
use mathlib.Core.Path.{◌≡◌, refl, sym, ap, ◌∙◌}
use mathlib.Core.List.{List, [], append-nil, map}
use Prim.Native.Nat.{ℕ, ◌+◌, ◌-◌, ◌*◌, ◌^◌, ◌≤◌, ◌<◌}
use native.Mathlib.Nat.{add-zero, zero-add}
use native.Mathlib.Numerals.{add-one}
use native.Mathlib.Omega.{arith}
use lib.IntN.{pos}
use lib.ListN.{length, drop, set, replicate, length-replicate, drop_of_length-le}
use borrow.Author.Tests.{ne_eqb}
use Rattle.format.specs.Lists.{listed, ◌over◌}
use Rattle.format.specs.Bits.{bit_at, number_of, number_at, field_of}
use Rattle.format.specs.Differences.{descriptors_of}
use Rattle.laws.specs.Bits.{bit-lt, number-below}
use Rattle.laws.specs.Lists.{map-listed, listed-ext, length-listed, grown}
use Rattle.diff.specs.Kept.{bias, kept, Minimum}
use Rattle.diff.proofs.Biased.{kept-plus, kept-minus}

-- ---- the minimum

one_bit : (f : ℕ → ℕ) (p : ℕ) → number_of f p 1 ≡ f p
unfolding number_of
one_bit f p = rw (add-zero p) (omega arith)

module _ (payload : List ℕ) (octets order : ℕ) {sign read magnitude : ℕ} (some : 0 < octets) (few : octets ≤ 4)
    (es : sign ≡ number_at payload (order * (octets * 8)) 1) (er : read ≡ number_at payload (order * (octets * 8) + 1) (octets * 8 - 1)) (em : magnitude ≡ read) where
  sign-is : bit_at payload (order * (octets * 8)) ≡ sign
  sign-is = sym (es ∙ one_bit (bit_at payload) (order * (octets * 8)))

  magnitude-low : magnitude < 2 ^ 31
  magnitude-low = rw (em, er) (number-below (bit-lt 8 payload) (order * (octets * 8) + 1) (octets * 8 - 1) 31 (omega arith))

  pub minimum-minus : sign ≡ 1 → Minimum payload octets order (bias - magnitude)
  minimum-minus e = record {
    number = rw (sign-is, e, ← add-one (order * (octets * 8)), ← er, ← em) (kept-minus magnitude (omega (arith, magnitude-low)));
    slight = record { low = omega (arith, magnitude-low); high = omega arith };
  }

  pub minimum-plus : (sign ≡ 1 → ⊥) → Minimum payload octets order (bias + magnitude)
  minimum-plus n = record {
    number = rw (sign-is, ne_eqb sign 1 n, ← add-one (order * (octets * 8)), ← er, ← em) (kept-plus magnitude);
    slight = record { low = omega arith; high = omega (arith, magnitude-low) };
  }

-- ---- the first values

abbrev pub first_of : List ℕ → ℕ → ℕ → ℕ
first_of payload octets k = bias + number_at payload (k * (octets * 8)) (octets * 8)

-- k of them are there
pub record Filled (payload : List ℕ) (octets order : ℕ) (firsts : List ℕ) (k : ℕ) : Type 0 where
  pub front : firsts ≡ listed k (first_of payload octets) over replicate order bias

module _ (payload : List ℕ) (octets order : ℕ) where
  pub filled-none : Filled payload octets order (replicate order bias) 0
  unfolding listed
  filled-none = record { front = refl }

  module _ {firsts : List ℕ} {k : ℕ} (f : Filled payload octets order firsts k) where
    pub filled-more : {first : ℕ} → first ≡ first_of payload octets k → k < order → Filled payload octets order (set firsts k first) (k + 1)
    filled-more e l = record {
      front = rw (f.front, e) (grown (first_of payload octets) (replicate order bias) k (omega (arith, length-replicate order bias)));
    }

    firsts-are : k ≡ order → map kept firsts ≡ map pos (field_of payload 0 (octets * 8) order)
    firsts-are e =
        let w = octets * 8 in
        let all_of = first_of payload octets in
        let none : drop (length (listed order all_of)) (replicate order bias) ≡ [] = drop_of_length-le (replicate order bias) (omega (arith, length-listed order all_of, length-replicate order bias)) in
        let all : firsts ≡ listed order all_of = rw e at f.front ∙ rw none (append-nil (listed order all_of)) in
        ap (map kept) all
        ∙ map-listed kept order (first_of payload octets)
        ∙ listed-ext order _ _ (λ i h. rw (zero-add (i * w)) (sym (kept-plus (number_at payload (i * w) w))))
        ∙ sym (map-listed pos order (λ i. number_at payload (0 + i * w) w))

    pub described : {minimum : ℕ} → k ≡ order → Minimum payload octets order minimum
        → record { firsts = map kept firsts; minimum = kept minimum } ≡ descriptors_of (record { order = order; octets = octets }) payload
    unfolding descriptors_of
    described e m = rw (firsts-are e, m.number)
