-- The window of some numbers: ordered, as wide as they are, and one number wider; their greatest. Assumes nothing.
use mathlib.Core.Path.{◌≡◌, sym, ap, ap₂, ◌∙◌}
use mathlib.Core.List.{List, [], ◌∷◌, ◌++◌}
use Prim.Native.Nat.{ℕ, ◌+◌, ◌-◌, ◌≤◌, ◌<◌, max}
use native.Mathlib.Omega.{arith}
use lib.ListN.{length, get_or, take}
use lib.Seq.{take_all}
use Rattle.format.specs.Lists.{greatest}
use Rattle.format.specs.Grouping.{bits, width_of}
use Rattle.laws.specs.Extremes.{least-greatest, greatest-snoc, greatest-next, least-snoc}
use Rattle.numbers.specs.Windows.{window_of, widened_by}
use Rattle.numbers.specs.declared.Window.{Window}

module _ (xs : List ℕ) {w : Window} (e : w ≡ window_of xs) where
  pub window-ordered : w.least ≤ w.greatest
  window-ordered = rw e (least-greatest xs)

  pub window-width : {n : ℕ} → n ≡ bits (w.greatest - w.least) → n ≡ width_of xs
  unfolding width_of
  window-width d = d ∙ ap (λ (v : Window). bits (v.greatest - v.least)) e

  -- a turn of a loop that widens a window
  pub window_more : (x : ℕ) → 0 < length xs → {v : Window} {y : ℕ} → y ≡ x → v ≡ widened_by w y → v ≡ window_of (xs ++ (x ∷ []))
  window_more x some ey ev = rw (ev, ey, e, greatest-snoc xs x, least-snoc xs x some)

-- ---- the greatest of a list that is gone through

module _ (numbers : List ℕ) (k : ℕ) {count r : ℕ} (n : count ≡ length numbers) (e : r ≡ greatest (take k numbers)) where
  pub greatest-turn : k < count → {x s : ℕ} → x ≡ get_or numbers k 0 → s ≡ max r x → s ≡ greatest (take (k + 1) numbers)
  greatest-turn l ex es = es ∙ ap₂ max e ex ∙ sym (greatest-next numbers k (omega arith))

  pub greatest-all : count ≤ k → r ≡ greatest numbers
  greatest-all l = rw (take_all k numbers (omega arith)) at e
