-- Numbers that are kept with the bias added to them. Assumes nothing.
use mathlib.Core.Path.{◌≡◌, refl, sym, ap, ◌∙◌}
use mathlib.Core.Bool.{Bool, true, false}
use Prim.Native.Nat.{ℕ, ◌+◌, ◌-◌, ◌*◌, ◌^◌, ◌≤◌, ◌<◌}
use native.Mathlib.Omega.{arith}
use lib.Dec.{ltb}
use Prim.Native.Nat.{suc}
use lib.IntN.{ℤ, pos, negsuc, sub_ℕ, neg_ℤ, ◌+ℤ◌, ◌-ℤ◌}
use mir.Facts.{to_z_pos, to_z-of_z}
use mir.Val.{SFits, to_z, of_z}
use mir.Syntax.{w64}
use Rattle.std.proofs.Common.{Some, None}
use borrow.Author.Tests.{le-ltb, ltb-false, ne_eqb}
use Rattle.format.specs.Differences.{expected, beyond}
use Rattle.format.specs.declared.DecodedValue.TheVariants.{Normal}
use Rattle.laws.specs.Signed.{by_sign, difference-same, pos-difference, minus-difference, difference-add, difference-sub, difference-size}
use Rattle.diff.specs.Kept.{bias, kept, Near, within}
use Rattle.diff.specs.Restoring.{Expected}

pub kept-zero : kept bias ≡ pos 0
unfolding kept
kept-zero = refl

pub kept-plus : (n : ℕ) → pos n ≡ kept (bias + n)
unfolding kept
kept-plus n = pos-difference n ∙ difference-same n 0 (bias + n) bias (omega arith)

pub kept-minus : (n : ℕ) → n ≤ bias → neg_ℤ (pos n) ≡ kept (bias - n)
unfolding kept
kept-minus n l = minus-difference n ∙ difference-same 0 n (bias - n) bias (omega arith)

-- a packed number, the minimum and what is expected
pub kept-sum : (n m e : ℕ) → bias ≤ n + m + e → pos n +ℤ kept m +ℤ kept e ≡ kept (n + m + e - bias)
unfolding kept
kept-sum n m e l =
    ap (λ (z : ℤ). z +ℤ sub_ℕ m bias +ℤ sub_ℕ e bias) (pos-difference n)
    ∙ ap (λ (z : ℤ). z +ℤ sub_ℕ e bias) (difference-add n 0 m bias)
    ∙ difference-add (n + m) (0 + bias) e bias
    ∙ difference-same (n + m + e) (0 + bias + bias) (n + m + e - bias) bias (omega arith)

-- 2 × previous − the one before
pub kept-double : (p b : ℕ) → b ≤ 2 * p → kept p +ℤ kept p -ℤ kept b ≡ kept (2 * p - b)
unfolding kept
kept-double p b l =
    ap (λ (z : ℤ). z -ℤ sub_ℕ b bias) (difference-add p bias p bias)
    ∙ difference-sub (p + p) (bias + bias) b bias
    ∙ difference-same (p + p + bias) (bias + bias + b) (2 * p - b) bias (omega arith)

-- ---- "a restored number is beyond 2^60 either way"

beyond-size : (n : ℕ) → beyond (Normal (kept n)) ≡ ltb (2 ^ 60) ((n - bias) + (bias - n))
unfolding beyond kept
beyond-size n = ap (ltb (2 ^ 60)) (difference-size n bias)

pub beyond-far : (n : ℕ) → (Near n → ⊥) → beyond (Normal (kept n)) ≡ true
beyond-far n f = beyond-size n ∙ by-test (ltb (2 ^ 60) ((n - bias) + (bias - n))) refl
  where
    by-test : (t : Bool) → ltb (2 ^ 60) ((n - bias) + (bias - n)) ≡ t → ltb (2 ^ 60) ((n - bias) + (bias - n)) ≡ true
    by-test true h = h
    by-test false h = let l = ltb-false (2 ^ 60) ((n - bias) + (bias - n)) h in absurd (f (record { low = omega arith; high = omega arith }))

pub beyond-near : (n : ℕ) → Near n → beyond (Normal (kept n)) ≡ false
beyond-near n h = beyond-size n ∙ le-ltb (2 ^ 60) ((n - bias) + (bias - n)) (omega arith)

pub within-near : (n : ℕ) → Near n → Some (kept n) ≡ within (kept n)
within-near n h = rw (beyond-near n h)

pub within-far : (n : ℕ) → (Near n → ⊥) → None ≡ within (kept n)
within-far n f = rw (beyond-far n f)

-- ---- as signed numbers

module _ (n : ℕ) (h : Near n) where
  fits : SFits w64 (sub_ℕ n bias)
  fits = by_sign (SFits w64) n bias (λ l. record { sfits = omega arith }) (λ l. record { sfits = omega arith })

  difference : to_z w64 n -ℤ pos bias ≡ sub_ℕ n bias
  difference = let l : n < 2 ^ 63 = omega arith in rw (to_z_pos w64 {n = n} l)

  pub signed-fits : SFits w64 (to_z w64 n -ℤ pos bias)
  signed-fits = rw difference fits

  pub signed-is : {z : ℤ} → kept n ≡ z → to_z w64 (of_z w64 (to_z w64 n -ℤ pos bias)) ≡ z
  unfolding kept
  signed-is e = to_z-of_z signed-fits ∙ difference ∙ e

-- a number that is not beyond is read from its pattern of 64 bits again
pub near-read : (z : ℤ) → beyond (Normal z) ≡ false → to_z w64 (of_z w64 z) ≡ z
unfolding beyond
near-read (pos n) h = to_z-of_z {w = w64} (record { sfits = omega (arith, ltb-false (2 ^ 60) n h) })
near-read (negsuc n) h = to_z-of_z {w = w64} (record { sfits = omega (arith, ltb-false (2 ^ 60) (suc n) h) })

-- ---- what is expected

module _ {order p : ℕ} {previous before : ℤ} (hp : Near p) (ep : kept p ≡ previous) where
  pub expected-first : order ≡ 1 → Expected order previous before p
  unfolding expected
  expected-first e = record { number = rw e (sym ep); low = omega arith; high = omega arith }

  pub expected-second : {b : ℕ} → (order ≡ 1 → ⊥) → Near b → kept b ≡ before → Expected order previous before (2 * p - b)
  unfolding expected
  expected-second {b} n hb eb = record {
    number = rw (ne_eqb order 1 n, ← ep, ← eb) (kept-double p b (omega arith));
    low = omega arith;
    high = omega arith;
  }
