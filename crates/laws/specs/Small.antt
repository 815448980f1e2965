-- No packed point takes more than 32 bits. Assumes nothing.
use Rattle.std.specs.Prelude.{◌≡◌, refl, Bool, true, false, cond, List, ◌++◌, ℕ, zero, suc, ◌+◌, ◌-◌, ◌*◌, ◌^◌, ◌≤◌, ◌<◌, eqb, ltb, leb, length, get_or, pos, negsuc}
use Rattle.std.proofs.Common.{arith, leb-true, leb-false, ltb-false, length-append, get_or-append-add}
use Rattle.std.proofs.Math.ListN.{get_or-append}
use Rattle.format.specs.Lists.{listed, total, joined, any_of}
use Rattle.format.specs.Bits.{number_at}
use Rattle.format.specs.Unpacking.{Codes, codes_of, reference_of, group_width, group_length, points_before, bits_before, wrong_group, is_missing1, is_missing2, decoded, point_of}
use Rattle.format.specs.declared.Template.{Template}
use Rattle.format.specs.declared.DecodedValue.{DecodedValue}
use Rattle.format.specs.declared.DecodedValue.TheVariants.{Normal, Missing1, Missing2}
use Rattle.laws.specs.Lists.{length-listed, get_or-listed, any_none, either_left}
use Rattle.laws.specs.Bits.{product, bit-lt, number-below}

-- a packed point as unpacking leaves it: a number of up to 32 bits, or missing
abbrev pub Small : DecodedValue → Type 0
Small (Normal (pos n)) = n < 2 ^ 32
Small (Normal (negsuc n)) = ⊥
Small Missing1 = Unit
Small Missing2 = Unit

-- ---- each point of a list

abbrev pub AllSmall : List DecodedValue → Type 0
AllSmall points = (k : ℕ) → k < length points → Small (get_or points k Missing1)

small-append : (xs ys : List DecodedValue) → AllSmall xs → AllSmall ys → AllSmall (xs ++ ys)
small-append xs ys hx hy k l = by-test (leb (length xs) k) refl
  where
    by-test : (b : Bool) → leb (length xs) k ≡ b → Small (get_or (xs ++ ys) k Missing1)
    by-test false e = rw (get_or-append xs ys Missing1 k (leb-false (length xs) k e)) (hx k (leb-false (length xs) k e))
    by-test true e =
        let at : length xs + (k - length xs) ≡ k = omega (arith, leb-true (length xs) k e) in
        rw (← at, get_or-append-add xs ys (k - length xs) Missing1) (hy (k - length xs) (omega (arith, length-append xs ys)))

pub small-listed : (n : ℕ) (f : ℕ → DecodedValue) → ((i : ℕ) → i < n → Small (f i)) → AllSmall (listed n f)
small-listed n f h k l = rw (get_or-listed n f Missing1 k (omega (arith, length-listed n f))) (h k (omega (arith, length-listed n f)))

pub small-joined : (n : ℕ) (f : ℕ → List DecodedValue) → ((i : ℕ) → i < n → AllSmall (f i)) → AllSmall (joined n f)
unfolding joined
small-joined zero f h k l = absurd (omega arith)
small-joined (suc n) f h k l = small-append (joined n f) (f n) (small-joined n f (λ i m. h i (omega arith))) (h n (omega arith)) k l

-- ---- a point

small-chosen : (a b : Bool) (n : ℕ) → n < 2 ^ 32 → Small (cond a Missing1 (cond b Missing2 (Normal (pos n))))
small-chosen true b n l = tt
small-chosen false true n l = tt
small-chosen false false n l = l

pub small-point : (t : Template) (w reference value : ℕ) → reference < 2 ^ 31 → value < 2 ^ 31 → Small (point_of t w reference value)
unfolding point_of decoded
small-point t w reference value hr hv = by-test (eqb w 0)
  where
    by-test : (b : Bool) → Small (cond b (decoded t t.width reference reference) (decoded t w value (value + reference)))
    by-test true = small-chosen (is_missing1 t t.width reference) (is_missing2 t t.width reference) reference (omega arith)
    by-test false = small-chosen (is_missing1 t w value) (is_missing2 t w value) (value + reference) (omega arith)

-- ---- the points of groups of which none is refused

-- no group is wrong
abbrev pub NoneWrong : Template → Codes → Type 0
NoneWrong t codes = any_of (wrong_group t codes) (listed t.groups (λ g. g)) ≡ false

-- the width of each group is at most 31
pub width_low : (t : Template) (codes : Codes) → NoneWrong t codes → (g : ℕ) → g < t.groups → group_width t codes g ≤ 31
unfolding wrong_group
width_low t codes h g l =
    let right : wrong_group t codes (get_or (listed t.groups (λ k. k)) g 0) ≡ false = any_none (wrong_group t codes) (listed t.groups (λ k. k)) 0 h g (omega (arith, length-listed t.groups (λ (k : ℕ). k))) in
    let here : wrong_group t codes g ≡ false = rw (get_or-listed t.groups (λ k. k) 0 g l) at right in
    ltb-false 31 (group_width t codes g) (either_left (ltb 31 (group_width t codes g)) _ here)

module _ (start : ℕ) (t : Template) (payload : List ℕ) (low : t.width ≤ 31) where
  -- the reference at the number width leaves room for a value in 32 bits
  pub reference-low : (g : ℕ) → g < t.groups → reference_of (codes_of start t payload) g < 2 ^ 31
  unfolding reference_of codes_of
  reference-low g l =
      rw (get_or-listed t.groups (λ k. number_at payload (start * 8 + k * t.width) t.width) 0 g l)
      (number-below (bit-lt 8 payload) (start * 8 + g * t.width) t.width 31 low)

-- ---- the bits of all values before a group

-- are at most 31 for each point
pub bits-low : (t : Template) (codes : Codes) → NoneWrong t codes → (g : ℕ) → g ≤ t.groups → bits_before t codes g ≤ points_before t codes g * 31
unfolding bits_before points_before total
bits-low t codes h zero l = omega arith
bits-low t codes h (suc g) l =
    omega (arith, bits-low t codes h g (omega arith), product (group_length t codes g) (group_width t codes g) (group_length t codes g) 31 (omega arith) (width_low t codes h g (omega arith)))
