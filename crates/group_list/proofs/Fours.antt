-- Numbers taken in fours. Assumes nothing.
use mathlib.Core.Path.{◌≡◌, ap, ◌∙◌}
use mathlib.Core.List.{List, []}
use Prim.Native.Nat.{ℕ, zero, suc, ◌+◌, ◌*◌, ◌<◌}
use native.Mathlib.Nat.{suc-mul, zero-mul, zero-add, add-zero}
use native.Mathlib.Omega.{arith}
use lib.ListN.{get_or, drop}
use lib.Seq.{get_or-take, get_or-drop}
use Rattle.std.specs.Simd.{first_chunks}
use Rattle.format.specs.Layout.{numbers_per_group}
use Rattle.group_list.specs.Listing.{group_among}

-- number i of chunk k
chunk-at : (size n : ℕ) (xs : List ℕ) (k i : ℕ) → k < n → i < size → get_or (get_or (first_chunks size n xs) k []) i 0 ≡ get_or xs (k * size + i) 0
chunk-at size zero xs k i l m = absurd (omega arith)
chunk-at size (suc n) xs zero i l m = rw (zero-mul size, zero-add i) (get_or-take size xs i 0 m)
chunk-at size (suc n) xs (suc k) i l m =
    chunk-at size n (drop size xs) k i (omega arith) m ∙ get_or-drop size xs (k * size + i) 0 ∙ ap (λ (j : ℕ). get_or xs j 0) (omega (arith, suc-mul k size))

module _ (n : ℕ) (numbers : List ℕ) (k : ℕ) (l : k < n) where
  abbrev four : List ℕ
  four = get_or (first_chunks numbers_per_group n numbers) k []

  pub four-group : record { start = get_or four 0 0; length = get_or four 1 0; least = get_or four 2 0; width = get_or four 3 0 } ≡ group_among numbers k
  four-group =
      let at : (i : ℕ) → i < numbers_per_group → get_or four i 0 ≡ get_or numbers (k * numbers_per_group + i) 0 = λ i m. chunk-at numbers_per_group n numbers k i l m in
      rw (at 0 (omega arith), at 1 (omega arith), at 2 (omega arith), at 3 (omega arith), add-zero)
