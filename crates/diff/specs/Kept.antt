-- Numbers that are kept with the bias added to them, so that none is below zero. Assumes nothing.
use Rattle.std.specs.Prelude.{◌≡◌, ℕ, suc, ◌+◌, ◌-◌, ◌*◌, ◌^◌, ◌≤◌, cond, ℤ, pos, nat_abs, ◌+ℤ◌, List, [], ◌∷◌, map, Option, Some, None}
use Rattle.std.proofs.Common.{refl, ap, ap₂, ◌∙◌, arith}
use Rattle.std.proofs.Math.IntN.{sub_ℕ}
use Rattle.format.specs.Bits.{bit_at, number_at}
use Rattle.format.specs.Differences.{signed, beyond}
use Rattle.format.specs.declared.DecodedValue.TheVariants.{Normal}
use Rattle.laws.specs.Signed.{pos-difference, difference-add, difference-size}

-- what is added
abbrev pub bias : ℕ
bias = 2 ^ 62 - 1

-- the number that is kept as n, and what it is kept as
unfoldable pub kept : ℕ → ℤ
kept n = sub_ℕ n bias

unfoldable pub unkept : ℤ → ℕ
unkept z = nat_abs (z +ℤ pos bias)

pub unkept-kept : (n : ℕ) → unkept (kept n) ≡ n
unfolding kept unkept
unkept-kept n =
    ap (λ (z : ℤ). nat_abs (sub_ℕ n bias +ℤ z)) (pos-difference bias)
    ∙ ap nat_abs (difference-add n bias bias 0)
    ∙ difference-size (n + bias) (bias + 0)
    ∙ omega arith

pub all-unkept : (ns : List ℕ) → map unkept (map kept ns) ≡ ns
all-unkept [] = refl
all-unkept (n ∷ ns) = ap₂ (λ (m : ℕ) (ms : List ℕ). m ∷ ms) (unkept-kept n) (all-unkept ns)

-- those that are within 2^60 either way
pub record Near (n : ℕ) : Type 0 where
  pub low : bias - 2 ^ 60 ≤ n
  pub high : n ≤ bias + 2 ^ 60

-- a number, if it is one of those
abbrev pub within : ℤ → Option ℤ
within z = cond (beyond (Normal z)) None (Some z)

-- the minimum has a sign and up to 31 bits more
pub record Slight (n : ℕ) : Type 0 where
  pub low : bias ≤ n + 2 ^ 31
  pub high : n ≤ bias + 2 ^ 31

-- a minimum of so many octets behind so many first values
pub record Minimum (payload : List ℕ) (octets order n : ℕ) : Type 0 where
  pub number : signed (bit_at payload (order * (octets * 8))) (number_at payload (suc (order * (octets * 8))) (octets * 8 - 1)) ≡ kept n
  pub slight : Slight n
