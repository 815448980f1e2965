-- Numbers that stop at a cap. Assumes nothing.
use mathlib.Core.Path.{◌≡◌, refl, sym, ◌∙◌}
use mathlib.Core.Bool.{Bool, true, false}
use Prim.Native.Nat.{ℕ, zero, suc, ◌+◌, ◌-◌, ◌*◌, ◌<◌, min}
use native.Mathlib.Nat.{suc-mul, zero-mul}
use native.Mathlib.Omega.{arith}
use lib.Dec.{eqb, leb}
use borrow.Author.Tests.{leb-true, leb-false, eq-eqb, ne_eqb, eqb-true, eqb-false}

-- where a factor stops at c, the product may as well
pub min-times : (d x c : ℕ) → min (d * min x c) c ≡ min (d * x) c
min-times zero x c = rw (zero-mul (min x c), zero-mul x)
min-times (suc d) x c = by-test (leb x c) refl
  where
    by-test : (t : Bool) → leb x c ≡ t → min (suc d * min x c) c ≡ min (suc d * x) c
    by-test true h = let e : min x c ≡ x = omega (arith, leb-true x c h) in rw e
    by-test false h =
        let e : min x c ≡ c = omega (arith, leb-false x c h) in
        rw (e, suc-mul d c, suc-mul d x) (omega (arith, leb-false x c h))

-- and so may a sum
pub sum-capped : (x y n c : ℕ) {p e : ℕ} → p ≡ min x c → min n c ≡ min y c → e ≡ min (p + n) c → e ≡ min (x + y) c
sum-capped x y n c ep en ee = ee ∙ rw ep (plus x n c ∙ rw en (sym (plus' x y c)))
  where
    plus : (x n c : ℕ) → min (min x c + n) c ≡ min (x + min n c) c
    plus x n c = omega arith

    plus' : (x y c : ℕ) → min (x + y) c ≡ min (x + min y c) c
    plus' x y c = omega arith

-- within a room that is below the cap nothing of it shows
pub rest-capped : (x y c room : ℕ) {p e to : ℕ} → room < c → p ≡ min x c → e ≡ min y c → to ≡ min e room → min y room - x ≡ to - p
rest-capped x y c room l ep ee et = rw (et, ee, ep) (rest x y c room l)
  where
    inside : (y c room : ℕ) → room < c → min (min y c) room ≡ min y room
    inside y c room l = omega arith

    rest : (x y c room : ℕ) → room < c → min y room - x ≡ min (min y c) room - min x c
    rest x y c room l = rw (inside y c room l) (omega arith)

-- and a number that stops at c is equal to one below it just where it is without
pub equal-capped : (x d c : ℕ) {p : ℕ} → d < c → p ≡ min x c → eqb p d ≡ eqb x d
equal-capped x d c {p} l ep = by-test (eqb x d) refl
  where
    by-test : (t : Bool) → eqb x d ≡ t → eqb p d ≡ eqb x d
    by-test true h = eq-eqb p d (omega (arith, eqb-true x d h)) ∙ sym h
    by-test false h = ne_eqb p d (λ e. eqb-false x d h (omega arith)) ∙ sym h
