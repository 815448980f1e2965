-- The count of binary digits. Assumes nothing.
use Rattle.std.specs.Prelude.{◌≡◌, refl, ℕ, zero, suc, ◌+◌, ◌/◌, ◌^◌, ◌<◌, ◌≤◌}
use Rattle.std.proofs.Common.{ap, ◌∙◌, add-zero, add-suc, pow-suc, arith}
use Rattle.std.specs.Int.Count.{count_leading_zeros}
use Rattle.format.specs.Grouping.{digits_in, bits}

half-below : (n x : ℕ) → x < 2 ^ suc n → x / 2 < 2 ^ n
half-below n x h = let e = pow-suc 2 n in omega arith

-- any bound on the halvings that is large enough gives the same count
pub enough : (n m x : ℕ) → x < 2 ^ n → x < 2 ^ m → digits_in n x ≡ digits_in m x
unfolding digits_in
enough zero zero x hn hm = refl
enough zero (suc m) zero hn hm = refl
enough zero (suc m) (suc x) hn hm = absurd (omega arith)
enough (suc n) zero zero hn hm = refl
enough (suc n) zero (suc x) hn hm = absurd (omega arith)
enough (suc n) (suc m) zero hn hm = refl
enough (suc n) (suc m) (suc x) hn hm = ap suc (enough n m (suc x / 2) (half-below n (suc x) hn) (half-below m (suc x) hm))

pub below_power : (x : ℕ) → x < 2 ^ x
below_power zero = omega arith
below_power (suc x) = let e = pow-suc 2 x in omega (arith, below_power x)

pub bits_in : (n x : ℕ) → x < 2 ^ n → bits x ≡ digits_in n x
unfolding bits
bits_in n x h = enough x n x (below_power x) h

-- of n binary places those that are no digits are leading zeros
pub leading-digits : (n x : ℕ) → count_leading_zeros n x + digits_in n x ≡ n
unfolding count_leading_zeros digits_in
leading-digits zero x = refl
leading-digits (suc n) zero = add-zero (suc n)
leading-digits (suc n) (suc x) = add-suc (count_leading_zeros n (suc x / 2)) (digits_in n (suc x / 2)) ∙ ap suc (leading-digits n (suc x / 2))

-- ---- how many they are

pub digits_le : (n x : ℕ) → digits_in n x ≤ n
unfolding digits_in
digits_le zero x = omega arith
digits_le (suc n) zero = omega arith
digits_le (suc n) (suc x) = omega (arith, digits_le n (suc x / 2))

-- n digits hold what is below 2 to the n
pub bits-le : (n x : ℕ) → x < 2 ^ n → bits x ≤ n
bits-le n x h = rw (bits_in n x h) (digits_le n x)

digits-mono : (n x y : ℕ) → x ≤ y → digits_in n x ≤ digits_in n y
unfolding digits_in
digits-mono zero x y l = omega arith
digits-mono (suc n) zero y l = omega arith
digits-mono (suc n) (suc x) zero l = absurd (omega arith)
digits-mono (suc n) (suc x) (suc y) l = omega (arith, digits-mono n (suc x / 2) (suc y / 2) (omega arith))

pub bits_mono : (x y : ℕ) → x ≤ y → bits x ≤ bits y
bits_mono x y l = rw (bits_in y x (omega (arith, below_power y)), bits_in y y (below_power y)) (digits-mono y x y l)

digits_above : (n x : ℕ) → x < 2 ^ n → x < 2 ^ digits_in n x
unfolding digits_in
digits_above zero x h = h
digits_above (suc n) zero h = omega arith
digits_above (suc n) (suc x) h =
    let e = pow-suc 2 (digits_in n (suc x / 2)) in
    omega (arith, digits_above n (suc x / 2) (half-below n (suc x) h))

-- a number fits its own digits
pub bits_above : (x : ℕ) → x < 2 ^ bits x
bits_above x = rw (bits_in x x (below_power x)) (digits_above x x (below_power x))

-- and those of any that is no less
pub bits-within : (x y : ℕ) → x ≤ y → x < 2 ^ bits y
bits-within x y l = omega (arith, bits_above y)
