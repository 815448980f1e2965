-- The greatest and the least of some numbers, and how wide they make a group. Assumes nothing.
use Rattle.std.specs.Prelude.{◌≡◌, refl, List, [], ◌∷◌, ◌++◌, ℕ, zero, suc, ◌+◌, ◌-◌, ◌^◌, ◌≤◌, ◌<◌, min, max, length, get_or, take}
use Rattle.std.proofs.Common.{not-suc-le-zero, add-one, arith, take-suc}
use Rattle.format.specs.Lists.{greatest, least}
use Rattle.format.specs.Grouping.{width_of}
use Rattle.laws.specs.Digits.{bits_mono, bits-within}

-- ---- each number lies between them

pub greatest-upper : (xs : List ℕ) (k : ℕ) → k < length xs → get_or xs k 0 ≤ greatest xs
unfolding greatest
greatest-upper [] k l = absurd (not-suc-le-zero l)
greatest-upper (x ∷ xs) zero l = omega arith
greatest-upper (x ∷ xs) (suc k) l = omega (arith, greatest-upper xs k (omega arith))

pub least-lower : (xs : List ℕ) (k : ℕ) → k < length xs → least xs ≤ get_or xs k 0
unfolding least
least-lower [] k l = absurd (not-suc-le-zero l)
least-lower (x ∷ []) zero l = omega arith
least-lower (x ∷ []) (suc k) l = absurd (omega arith)
least-lower (x ∷ y ∷ ys) zero l = omega arith
least-lower (x ∷ y ∷ ys) (suc k) l = omega (arith, least-lower (y ∷ ys) k (omega arith))

pub least-greatest : (xs : List ℕ) → least xs ≤ greatest xs
unfolding greatest least
least-greatest [] = omega arith
least-greatest (x ∷ []) = omega arith
least-greatest (x ∷ y ∷ ys) = omega arith

-- numbers up to b
abbrev pub UpTo : ℕ → List ℕ → Type 0
UpTo b xs = (k : ℕ) → k < length xs → get_or xs k 0 ≤ b

pub greatest-each : (b : ℕ) (xs : List ℕ) → UpTo b xs → greatest xs ≤ b
unfolding greatest
greatest-each b [] h = omega arith
greatest-each b (x ∷ xs) h = omega (arith, h 0 (omega arith), greatest-each b xs (λ k l. h (suc k) (omega arith)))

-- ---- one number more

pub greatest-snoc : (xs : List ℕ) (x : ℕ) → greatest (xs ++ (x ∷ [])) ≡ max (greatest xs) x
unfolding greatest
greatest-snoc [] x = omega arith
greatest-snoc (y ∷ ys) x = omega (arith, greatest-snoc ys x)

pub least-snoc : (xs : List ℕ) (x : ℕ) → 0 < length xs → least (xs ++ (x ∷ [])) ≡ min (least xs) x
unfolding least
least-snoc [] x l = absurd (not-suc-le-zero l)
least-snoc (y ∷ []) x l = refl
least-snoc (y ∷ z ∷ zs) x l = omega (arith, least-snoc (z ∷ zs) x (omega arith))

-- ---- more numbers are no narrower

pub greatest-more : (xs ys : List ℕ) → greatest xs ≤ greatest (xs ++ ys)
unfolding greatest
greatest-more [] ys = omega arith
greatest-more (x ∷ xs) ys = omega (arith, greatest-more xs ys)

pub greatest-later : (xs ys : List ℕ) → greatest ys ≤ greatest (xs ++ ys)
unfolding greatest
greatest-later [] ys = omega arith
greatest-later (x ∷ xs) ys = omega (arith, greatest-later xs ys)

pub least_more : (xs ys : List ℕ) → 0 < length xs → least (xs ++ ys) ≤ least xs
unfolding least
least_more [] ys l = absurd (not-suc-le-zero l)
least_more (x ∷ []) [] l = omega arith
least_more (x ∷ []) (y ∷ ys) l = omega arith
least_more (x ∷ z ∷ zs) ys l = omega (arith, least_more (z ∷ zs) ys (omega arith))

pub width-more : (xs ys : List ℕ) → 0 < length xs → width_of xs ≤ width_of (xs ++ ys)
unfolding width_of
width-more xs ys l =
    bits_mono (greatest xs - least xs) (greatest (xs ++ ys) - least (xs ++ ys)) (omega (arith, greatest-more xs ys, least_more xs ys l))

-- ---- numbers of a group fit its width

pub fits_width : (xs : List ℕ) (k : ℕ) → k < length xs → get_or xs k 0 - least xs < 2 ^ width_of xs
unfolding width_of
fits_width xs k l = bits-within (get_or xs k 0 - least xs) (greatest xs - least xs) (omega (arith, greatest-upper xs k l))

-- ---- a turn of a loop over some numbers

pub greatest-next : (xs : List ℕ) (k : ℕ) → k < length xs → greatest (take (k + 1) xs) ≡ max (greatest (take k xs)) (get_or xs k 0)
greatest-next xs k l = rw (add-one k, take-suc xs k 0 l) (greatest-snoc (take k xs) (get_or xs k 0))
