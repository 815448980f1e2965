-- Integers as differences of natural numbers: what a sum and a difference of them are, so that the rest is said of natural
-- numbers alone. Assumes nothing.
use Rattle.std.specs.Prelude.{◌≡◌, refl, Bool, true, false, ℕ, zero, suc, ◌+◌, ◌-◌, ◌<◌, ◌≤◌, ltb, ℤ, pos, negsuc, neg_ℤ, nat_abs, ◌+ℤ◌, ◌-ℤ◌}
use Rattle.std.proofs.Common.{sym, ap, ◌∙◌, arith, lt-ltb, le-ltb, ltb-true, ltb-false}
use Rattle.std.proofs.Math.IntN.{sub_ℕ}

-- a difference is one of the two kinds of integer
below-zero : (a b : ℕ) → a < b → sub_ℕ a b ≡ negsuc (b - suc a)
below-zero a b l = rw (lt-ltb a b l)

not-below : (a b : ℕ) → b ≤ a → sub_ℕ a b ≡ pos (a - b)
not-below a b l = rw (le-ltb a b l)

module _ (P : ℤ → Type 0) (a b : ℕ) (f : a < b → P (negsuc (b - suc a))) (g : b ≤ a → P (pos (a - b))) where
  pub by_sign : P (sub_ℕ a b)
  by_sign = by-test (ltb a b) refl
    where
      by-test : (t : Bool) → ltb a b ≡ t → P (sub_ℕ a b)
      by-test true h = rw (below-zero a b (ltb-true a b h)) (f (ltb-true a b h))
      by-test false h = rw (not-below a b (ltb-false a b h)) (g (ltb-false a b h))

-- equal differences
pub difference-same : (a b c d : ℕ) → a + d ≡ c + b → sub_ℕ a b ≡ sub_ℕ c d
difference-same a b c d e =
    by_sign (λ z. z ≡ sub_ℕ c d) a b
    (λ l. ap negsuc (omega arith) ∙ sym (below-zero c d (omega arith)))
    (λ l. ap pos (omega arith) ∙ sym (not-below c d (omega arith)))

pub pos-difference : (n : ℕ) → pos n ≡ sub_ℕ n 0
pos-difference n = ap pos (omega arith) ∙ sym (not-below n 0 (omega arith))

pub negsuc-difference : (n : ℕ) → negsuc n ≡ sub_ℕ 0 (suc n)
negsuc-difference n = ap negsuc (omega arith) ∙ sym (below-zero 0 (suc n) (omega arith))

pub minus-difference : (n : ℕ) → neg_ℤ (pos n) ≡ sub_ℕ 0 n
minus-difference zero = pos-difference 0
minus-difference (suc n) = negsuc-difference n

-- ---- sums

-- how far a number is above zero, and how far below
abbrev above : ℤ → ℕ
above (pos n) = n
above (negsuc n) = 0

abbrev below : ℤ → ℕ
below (pos n) = 0
below (negsuc n) = suc n

parts : (a b : ℕ) → a + below (sub_ℕ a b) ≡ above (sub_ℕ a b) + b
parts a b = by_sign (λ z. a + below z ≡ above z + b) a b (λ l. omega arith) (λ l. omega arith)

sum-parts : (x y : ℤ) → x +ℤ y ≡ sub_ℕ (above x + above y) (below x + below y)
sum-parts (pos a) (pos b) = pos-difference (a + b)
sum-parts (pos a) (negsuc b) = difference-same a (suc b) (a + 0) (0 + suc b) (omega arith)
sum-parts (negsuc a) (pos b) = difference-same b (suc a) (0 + b) (suc a + 0) (omega arith)
sum-parts (negsuc a) (negsuc b) = negsuc-difference (suc (a + b)) ∙ difference-same 0 (suc (suc (a + b))) 0 (suc a + suc b) (omega arith)

pub difference-add : (a b c d : ℕ) → sub_ℕ a b +ℤ sub_ℕ c d ≡ sub_ℕ (a + c) (b + d)
difference-add a b c d =
    let x : ℤ = sub_ℕ a b in
    let y : ℤ = sub_ℕ c d in
    sum-parts x y ∙ difference-same (above x + above y) (below x + below y) (a + c) (b + d) (omega (arith, parts a b, parts c d))

pub difference-minus : (a b : ℕ) → neg_ℤ (sub_ℕ a b) ≡ sub_ℕ b a
difference-minus a b =
    by_sign (λ z. neg_ℤ z ≡ sub_ℕ b a) a b
    (λ l. pos-difference (suc (b - suc a)) ∙ difference-same (suc (b - suc a)) 0 b a (omega arith))
    (λ l. minus-difference (a - b) ∙ difference-same 0 (a - b) b a (omega arith))

pub difference-sub : (a b c d : ℕ) → sub_ℕ a b -ℤ sub_ℕ c d ≡ sub_ℕ (a + d) (b + c)
difference-sub a b c d = ap (λ (z : ℤ). sub_ℕ a b +ℤ z) (difference-minus c d) ∙ difference-add a b d c

-- ---- size

pub difference-size : (a b : ℕ) → nat_abs (sub_ℕ a b) ≡ (a - b) + (b - a)
difference-size a b = by_sign (λ z. nat_abs z ≡ (a - b) + (b - a)) a b (λ l. omega arith) (λ l. omega arith)
