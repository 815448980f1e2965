-- "the greatest common divisor by repeated remainders" is one, and the increment divides. Assumes nothing.
use Rattle.std.specs.Prelude.{◌≡◌, refl, Bool, true, false, cond, List, [], ◌∷◌, ℕ, zero, suc, ◌*◌, ◌/◌, ◌%◌, ◌≤◌, ◌<◌, eqb, leb, length, get_or}
use Rattle.std.specs.Int.{◌∣◌}
use Rattle.std.proofs.Common.{le_trans, le-div_iff_mul-le, div-mul-le_self, mod-lt, zero-lt-suc, arith, eqb-true, leb-true}
use Rattle.std.proofs.Math.Nat.{div-zero, dvd_refl, dvd-zero, one-dvd, dvd_trans, dvd-mod_iff, dvd_of_mod-eq-zero, div-mul_cancel, mod-one}
use Rattle.format.specs.Packing.{gcd_in, gcd, gcd_from, divisor_up_to, increment_of}

-- ---- the greatest common divisor

gcd-in-divides : (n a b : ℕ) → b ≤ n → (gcd_in n a b ∣ a) × (gcd_in n a b ∣ b)
unfolding gcd_in
gcd-in-divides zero a zero l = (dvd_refl a, dvd-zero a)
gcd-in-divides zero a (suc b) l = absurd (omega arith)
gcd-in-divides (suc n) a zero l = (dvd_refl a, dvd-zero a)
gcd-in-divides (suc n) a (suc b) l =
    let h = gcd-in-divides n (suc b) (a % suc b) (omega (arith, mod-lt a (zero-lt-suc b))) in
    ((dvd-mod_iff _ h.0).0 h.1, h.0)

pub gcd-divides : (a b : ℕ) → (gcd a b ∣ a) × (gcd a b ∣ b)
unfolding gcd
gcd-divides a b = gcd-in-divides b a b (omega arith)

-- every common divisor divides it, so that none is greater
gcd-in-greatest : (n a b d : ℕ) → d ∣ a → d ∣ b → d ∣ gcd_in n a b
unfolding gcd_in
gcd-in-greatest zero a b d ha hb = ha
gcd-in-greatest (suc n) a zero d ha hb = ha
gcd-in-greatest (suc n) a (suc b) d ha hb = gcd-in-greatest n (suc b) (a % suc b) d hb ((dvd-mod_iff _ hb).1 ha)

gcd-greatest : (a b d : ℕ) → d ∣ a → d ∣ b → d ∣ gcd a b
unfolding gcd
gcd-greatest a b d ha hb = gcd-in-greatest b a b d ha hb

-- ---- of several numbers

-- d divides every one of them
abbrev pub DividesAll : ℕ → List ℕ → Type 0
DividesAll d numbers = (k : ℕ) → k < length numbers → d ∣ get_or numbers k 0

pub gcd-from-divides : (a : ℕ) (numbers : List ℕ) → (gcd_from a numbers ∣ a) × DividesAll (gcd_from a numbers) numbers
unfolding gcd_from
gcd-from-divides a [] = (dvd_refl a, λ k l. absurd (omega arith))
gcd-from-divides a (b ∷ numbers) = both (gcd_from (gcd a b) numbers) (gcd-from-divides (gcd a b) numbers)
  where
    both : (d : ℕ) → (d ∣ gcd a b) × DividesAll d numbers → (d ∣ a) × DividesAll d (b ∷ numbers)
    both d h = (dvd_trans _ h.0 (gcd-divides a b).0, each)
      where
        each : DividesAll d (b ∷ numbers)
        each zero l = dvd_trans _ h.0 (gcd-divides a b).1
        each (suc k) l = h.1 k (omega arith)

pub gcd-from-greatest : (a : ℕ) (numbers : List ℕ) (d : ℕ) → d ∣ a → DividesAll d numbers → d ∣ gcd_from a numbers
unfolding gcd_from
gcd-from-greatest a [] d ha h = ha
gcd-from-greatest a (b ∷ numbers) d ha h = gcd-from-greatest (gcd a b) numbers d (gcd-greatest a b d ha (h 0 (omega arith))) (λ k l. h (suc k) (omega arith))

-- ---- the increment

-- 1 divides, so that one is found
divisor-divides : (step n : ℕ) → divisor_up_to step (suc n) ∣ step
unfolding divisor_up_to
divisor-divides step zero = rw (mod-one step) (one-dvd step)
divisor-divides step (suc n) = by-test (eqb (step % suc (suc n)) 0) refl (divisor-divides step n)
  where
    by-test : (b : Bool) → eqb (step % suc (suc n)) 0 ≡ b → divisor_up_to step (suc n) ∣ step → cond b (suc (suc n)) (divisor_up_to step (suc n)) ∣ step
    by-test true e earlier = dvd_of_mod-eq-zero _ (eqb-true (step % suc (suc n)) 0 e)
    by-test false e earlier = earlier

pub increment-divides : (step : ℕ) → increment_of step ∣ step
unfolding increment_of
increment-divides step = by-test (leb step 255)
  where
    by-test : (b : Bool) → cond b step (divisor_up_to step 255) ∣ step
    by-test true = dvd_refl step
    by-test false = divisor-divides step 254

divisor-le : (step n : ℕ) → divisor_up_to step n ≤ n
unfolding divisor_up_to
divisor-le step zero = omega arith
divisor-le step (suc n) = by-test (eqb (step % suc n) 0) (divisor-le step n)
  where
    by-test : (b : Bool) → divisor_up_to step n ≤ n → cond b (suc n) (divisor_up_to step n) ≤ suc n
    by-test true h = omega arith
    by-test false h = omega arith

-- it is a number of one octet
pub increment-le : (step : ℕ) → increment_of step ≤ 255
unfolding increment_of
increment-le step = by-test (leb step 255) refl
  where
    by-test : (b : Bool) → leb step 255 ≡ b → cond b step (divisor_up_to step 255) ≤ 255
    by-test true h = leb-true step 255 h
    by-test false h = divisor-le step 255

-- what the increment of some numbers leaves of each of them, taken as often, is the number again
pub increment-whole : (numbers : List ℕ) (k : ℕ) → k < length numbers
    → get_or numbers k 0 / increment_of (gcd_from 0 numbers) * increment_of (gcd_from 0 numbers) ≡ get_or numbers k 0
increment-whole numbers k l = div-mul_cancel _ (dvd_trans _ (increment-divides (gcd_from 0 numbers)) ((gcd-from-divides 0 numbers).1 k l))

-- a quotient is no less where the number is no less
pub divided-le : (x y d : ℕ) → x ≤ y → x / d ≤ y / d
divided-le x y zero h = omega (arith, div-zero x, div-zero y)
divided-le x y (suc d) h = (le-div_iff_mul-le {k = suc d} (omega arith)).1 (le_trans (div-mul-le_self x (suc d)) h)
