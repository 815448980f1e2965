-- The laws of common divisors and of the increment. Assumes nothing.
use mathlib.Core.Logic.{⊎_elim}
use mathlib.Core.Path.{◌≡◌, refl}
use mathlib.Core.List.{List, [], ◌∷◌, ◌++◌}
use Prim.Native.Nat.{ℕ, zero, suc, ◌-◌, ◌%◌, ◌<◌, ◌≤◌}
use native.Mathlib.Nat.{mod-lt, mod-one, zero-lt-suc, eq-or-lt_of_le}
use native.Mathlib.Omega.{arith}
use borrow.Author.Tests.{eq-eqb, ne_eqb}
use Rattle.format.specs.Packing.{gcd_in, gcd, gcd_from, divisor_up_to}

-- ---- the greatest common divisor

-- any bound on the calls that is large enough gives the same
enough : (n m a b : ℕ) → b ≤ n → b ≤ m → gcd_in n a b ≡ gcd_in m a b
unfolding gcd_in
enough zero zero a b hn hm = refl
enough zero (suc m) a zero hn hm = refl
enough zero (suc m) a (suc b) hn hm = absurd (omega arith)
enough (suc n) zero a zero hn hm = refl
enough (suc n) zero a (suc b) hn hm = absurd (omega arith)
enough (suc n) (suc m) a zero hn hm = refl
enough (suc n) (suc m) a (suc b) hn hm =
    let h : a % suc b < suc b = mod-lt a (zero-lt-suc b) in
    enough n m (suc b) (a % suc b) (omega (arith, h)) (omega (arith, h))

pub gcd-zero : (a b : ℕ) → b ≡ 0 → a ≡ gcd a b
unfolding gcd gcd_in
gcd-zero a b e = rw e

pub gcd-step : (a b : ℕ) → (b ≡ 0 → ⊥) → gcd b (a % b) ≡ gcd a b
unfolding gcd gcd_in
gcd-step a zero f = absurd (f refl)
gcd-step a (suc b) f =
    let h : a % suc b < suc b = mod-lt a (zero-lt-suc b) in
    enough (a % suc b) b (suc b) (a % suc b) (omega arith) (omega (arith, h))

pub gcd-snoc : (a : ℕ) (xs : List ℕ) (x : ℕ) → gcd_from a (xs ++ (x ∷ [])) ≡ gcd (gcd_from a xs) x
unfolding gcd_from
gcd-snoc a [] x = refl
gcd-snoc a (y ∷ ys) x = gcd-snoc (gcd a y) ys x

-- ---- the greatest divisor, sought from n down

module _ (step : ℕ) where
  pub divisor-here : (n : ℕ) → step % n ≡ 0 → divisor_up_to step n ≡ n
  unfolding divisor_up_to
  divisor-here zero e = refl
  divisor-here (suc n) e = rw (eq-eqb (step % suc n) 0 e)

  pub divisor-below : (n : ℕ) → (step % n ≡ 0 → ⊥) → divisor_up_to step n ≡ divisor_up_to step (n - 1)
  unfolding divisor_up_to
  divisor-below zero f = refl
  divisor-below (suc n) f = let e : suc n - 1 ≡ n = omega arith in rw (ne_eqb (step % suc n) 0 f, e)

  -- 1 divides, so that the search ends there
  pub above-one : (n : ℕ) → 0 < n → (step % n ≡ 0 → ⊥) → 1 < n
  above-one n p f = ⊎_elim (λ (e : 1 ≡ n). absurd (f (rw (← e) (mod-one step)))) (λ (l : 1 < n). l) (eq-or-lt_of_le p)
