-- The digits of a number are those that come to it, each below the base and no zero at the top. Assumes nothing.
use mathlib.Core.Path.{◌≡◌, refl, sym, ap, ap₂, ◌∙◌}
use mathlib.Core.Bool.{false}
use mathlib.Core.List.{List, [], ◌∷◌}
use Prim.Native.Nat.{ℕ, zero, suc, ◌+◌, ◌*◌, ◌/◌, ◌%◌, ◌≤◌, ◌<◌}
use native.Mathlib.Nat.{zero-lt-suc, mod-lt, mod-add-div, mod-eq_of_lt, div-eq_of_lt, mul-zero, mul-pos, add-mul-mod_self_left, add-mul-div_left}
use native.Mathlib.Omega.{arith}
use lib.Dec.{eqb, leb}
use borrow.Author.Tests.{eqb-false, ne_eqb, lt-leb, leb-false}
use Rattle.format.specs.Lists.{any_of}
use Rattle.format.specs.WritingRunLength.{digits_up_to, digits_of}
use Rattle.laws.specs.Lists.{either_left, either-right}
use Rattle.runs.specs.Claims.{value_of, zero_at_top, Digits, DigitsAreThese}
use Rattle.runs.proofs.DigitsOf.{digit-less}

module _ (base : ℕ) (some : 2 ≤ base) where
  -- ---- those that are written

  value-up-to : (bound n : ℕ) → n ≤ bound → value_of base (digits_up_to bound base n) ≡ n
  unfolding value_of digits_up_to
  value-up-to zero n l = omega arith
  value-up-to (suc bound) zero l = refl
  value-up-to (suc bound) (suc n) l =
      rw (value-up-to bound (suc n / base) (omega (arith, digit-less base some (suc n) (zero-lt-suc n)))) (mod-add-div (suc n) base)

  below-up-to : (bound n : ℕ) → any_of (leb base) (digits_up_to bound base n) ≡ false
  unfolding any_of digits_up_to
  below-up-to zero n = refl
  below-up-to (suc bound) zero = refl
  below-up-to (suc bound) (suc n) = rw (lt-leb base (suc n % base) (mod-lt (suc n) (omega arith))) (below-up-to bound (suc n / base))

  -- a digit that others stand behind is not the top one
  top-behind : (digit : ℕ) (digits : List ℕ) → (value_of base digits ≡ 0 → eqb digit 0 ≡ false) → zero_at_top digits ≡ false → zero_at_top (digit ∷ digits) ≡ false
  unfolding zero_at_top value_of
  top-behind digit [] h t = h refl
  top-behind digit (next ∷ digits) h t = t

  top-up-to : (bound n : ℕ) → n ≤ bound → zero_at_top (digits_up_to bound base n) ≡ false
  unfolding zero_at_top digits_up_to
  top-up-to zero n l = refl
  top-up-to (suc bound) zero l = refl
  top-up-to (suc bound) (suc n) l =
      let q : ℕ = suc n / base in
      let few : q ≤ bound = omega (arith, digit-less base some (suc n) (zero-lt-suc n)) in
      top-behind (suc n % base) (digits_up_to bound base q)
      (λ none.
      let last : base * q ≡ 0 = ap (λ (m : ℕ). base * m) (sym (value-up-to bound q few) ∙ none) ∙ mul-zero base in
      ne_eqb (suc n % base) 0 (λ e. omega (arith, mod-add-div (suc n) base)))
      (top-up-to bound q few)

  -- ---- and no others

  tail-top : (digit : ℕ) (digits : List ℕ) → zero_at_top (digit ∷ digits) ≡ false → zero_at_top digits ≡ false
  unfolding zero_at_top
  tail-top digit [] h = refl
  tail-top digit (next ∷ digits) h = h

  -- one digit and more come to something
  some-value : (digit : ℕ) (digits : List ℕ) → zero_at_top (digit ∷ digits) ≡ false → 0 < value_of base (digit ∷ digits)
  unfolding zero_at_top value_of
  some-value digit [] h = let n = eqb-false digit 0 h in omega arith
  some-value digit (next ∷ digits) h = let p : 0 < base * value_of base (next ∷ digits) = mul-pos (omega arith) (some-value next digits h) in omega arith

  same : (xs ys : List ℕ) → any_of (leb base) xs ≡ false → any_of (leb base) ys ≡ false → zero_at_top xs ≡ false → zero_at_top ys ≡ false → value_of base xs ≡ value_of base ys → xs ≡ ys
  unfolding any_of value_of
  same [] [] bx by tx ty e = refl
  same [] (y ∷ ys) bx by tx ty e = absurd (omega (arith, some-value y ys ty))
  same (x ∷ xs) [] bx by tx ty e = absurd (omega (arith, some-value x xs tx))
  same (x ∷ xs) (y ∷ ys) bx by tx ty e =
      let low : x < base = leb-false base x (either_left (leb base x) (any_of (leb base) xs) bx) in
      let low' : y < base = leb-false base y (either_left (leb base y) (any_of (leb base) ys) by) in
      let vx : ℕ = value_of base xs in
      let vy : ℕ = value_of base ys in
      let first : x ≡ y = sym (mod-eq_of_lt low) ∙ sym (add-mul-mod_self_left x base vx) ∙ ap (λ (n : ℕ). n % base) e ∙ add-mul-mod_self_left y base vy ∙ mod-eq_of_lt low' in
      let dx : (x + base * vx) / base ≡ vx = add-mul-div_left x vx (omega arith) ∙ omega (arith, div-eq_of_lt low) in
      let dy : (y + base * vy) / base ≡ vy = add-mul-div_left y vy (omega arith) ∙ omega (arith, div-eq_of_lt low') in
      ap₂ (λ (d : ℕ) (l : List ℕ). d ∷ l) first
      (same xs ys (either-right (leb base x) (any_of (leb base) xs) bx) (either-right (leb base y) (any_of (leb base) ys) by) (tail-top x xs tx) (tail-top y ys ty)
      (sym dx ∙ ap (λ (n : ℕ). n / base) e ∙ dy))

pub digits-these : DigitsAreThese
unfolding digits_of
digits-these base n some =
    let own : Digits base n (digits_of base n) = record { value = value-up-to base some n n (omega arith); below = below-up-to base some n n; no_zero = top-up-to base some n n (omega arith) } in
    (own, λ digits d. same base some digits (digits_of base n) d.below own.below d.no_zero own.no_zero (d.value ∙ sym own.value))
