-- The digits of a number in a base. Assumes nothing.
use mathlib.Core.Path.{◌≡◌, refl, ap, ◌∙◌}
use mathlib.Core.List.{List, [], ◌∷◌}
use Prim.Native.Nat.{ℕ, zero, suc, ◌/◌, ◌%◌, ◌≤◌, ◌<◌}
use native.Mathlib.Nat.{zero-lt-suc, div-lt_self, div-eq_of_lt, mod-eq_of_lt}
use native.Mathlib.Omega.{arith}
use lib.ListN.{length}
use Rattle.format.specs.WritingRunLength.{digits_up_to, digits_of}

module _ (base : ℕ) (some : 2 ≤ base) where
  pub digit-less : (x : ℕ) → 0 < x → x / base < x
  digit-less x l = div-lt_self {n = x} {k = base} l some

  -- any bound on the divisions that is large enough gives the same digits
  enough : (n m x : ℕ) → x ≤ n → x ≤ m → digits_up_to n base x ≡ digits_up_to m base x
  unfolding digits_up_to
  enough zero zero x hn hm = refl
  enough zero (suc m) zero hn hm = refl
  enough zero (suc m) (suc x) hn hm = absurd (omega arith)
  enough (suc n) zero zero hn hm = refl
  enough (suc n) zero (suc x) hn hm = absurd (omega arith)
  enough (suc n) (suc m) zero hn hm = refl
  enough (suc n) (suc m) (suc x) hn hm =
      let l = digit-less (suc x) (zero-lt-suc x) in
      ap (λ (digits : List ℕ). suc x % base ∷ digits) (enough n m (suc x / base) (omega arith) (omega arith))

  -- the least digit, and those of the quotient
  pub digits-next : (x : ℕ) → 0 < x → digits_of base x ≡ x % base ∷ digits_of base (x / base)
  unfolding digits_of digits_up_to
  digits-next zero l = absurd (omega arith)
  digits-next (suc x) l =
      let less = digit-less (suc x) l in
      ap (λ (digits : List ℕ). suc x % base ∷ digits) (enough x (suc x / base) (suc x / base) (omega arith) (omega arith))

  -- no more than the number itself
  few-up-to : (n x : ℕ) → length (digits_up_to n base x) ≤ x
  unfolding digits_up_to
  few-up-to zero x = omega arith
  few-up-to (suc n) zero = omega arith
  few-up-to (suc n) (suc x) = let l = digit-less (suc x) (zero-lt-suc x) in omega (arith, few-up-to n (suc x / base))

  pub digits-few : (x : ℕ) → length (digits_of base x) ≤ x
  unfolding digits_of
  digits-few x = few-up-to x x

  -- one below the base is its own digit
  pub digits_last : (x : ℕ) → 0 < x → x < base → digits_of base x ≡ x ∷ digits_of base 0
  digits_last x l m = digits-next x l ∙ rw (mod-eq_of_lt m, div-eq_of_lt m)

pub digits-none : (base : ℕ) → digits_of base 0 ≡ []
unfolding digits_of digits_up_to
digits-none base = refl
