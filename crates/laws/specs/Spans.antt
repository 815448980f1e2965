-- The octets that a field spans. Assumes nothing.
use Rattle.std.specs.Prelude.{◌≡◌, refl, ℕ, zero, suc, ◌+◌, ◌*◌, ◌/◌, ◌%◌, ◌<◌}
use Rattle.std.proofs.Common.{sym, ap, ◌∙◌, zero-mul, mul-zero, mul-pos, add-mul, div-add-mod', mul_right_comm, arith, ne_eqb, eq-eqb}
use Rattle.format.specs.Bits.{span_of, rounded_up}

-- an empty list or width 0: none
pub span_none : (s w n : ℕ) → n * w ≡ 0 → span_of s w n ≡ 0
unfolding span_of
span_none s w n h = rw (eq-eqb (n * w) 0 h)

pub span-some : (s w n : ℕ) → 0 < n * w → span_of s w n ≡ rounded_up (s + n * w)
unfolding span_of
span-some s w n h = simp (ne_eqb (n * w) 0 (λ e. omega arith))

-- from the start of an octet the case of no bits is none of its own
pub span-aligned : (w n : ℕ) → span_of 0 w n ≡ (n * w + 7) / 8
span-aligned w n = by_size (n * w) refl
  where
    by_size : (m : ℕ) → n * w ≡ m → span_of 0 w n ≡ (n * w + 7) / 8
    by_size zero e = span_none 0 w n e ∙ sym (ap (λ (k : ℕ). (k + 7) / 8) e)
    by_size (suc m) e = span-some 0 w n (omega arith) ∙ omega arith

-- eight numbers of width w make w octets, so that a span is counted without its bits
pub eights : (n w : ℕ) → n * w ≡ n / 8 * w * 8 + n % 8 * w
eights n w =
    ap (λ (m : ℕ). m * w) (sym (div-add-mod' n 8)) ∙ add-mul (n / 8 * 8) (n % 8) w
    ∙ ap (λ (m : ℕ). m + n % 8 * w) (mul_right_comm (n / 8) 8 w)

module _ (s w n : ℕ) where
  pub span-of-none : n ≡ 0 → 0 ≡ span_of s w n
  span-of-none e = sym (span_none s w n (rw e (zero-mul w)))

  pub span-of-width : w ≡ 0 → 0 ≡ span_of s w n
  span-of-width e = sym (span_none s w n (rw e (mul-zero n)))

  pub span-of-eights : {whole rest : ℕ} → (n ≡ 0 → ⊥) → (w ≡ 0 → ⊥) → whole ≡ n / 8 * w → rest ≡ n % 8 * w → whole + (s + rest + 7) / 8 ≡ span_of s w n
  span-of-eights hn hw e d = omega (arith, eights n w, span-some s w n (mul-pos (omega arith) (omega arith)))
