-- The look-ahead, which stops as soon as the comparison is decided. Assumes nothing.
use mathlib.Core.Path.{◌≡◌, refl, sym, ap, ◌∙◌}
use mathlib.Core.Bool.{Bool, true, false}
use mathlib.Core.List.{List, [], ◌∷◌}
use Prim.Native.Nat.{ℕ, zero, suc, ◌+◌, ◌-◌, ◌*◌, ◌≤◌, ◌<◌, min}
use native.Mathlib.Nat.{add-zero, mul-zero, mul-le-mul_left}
use native.Mathlib.Omega.{arith}
use borrow.Author.Tests.{le-ltb, lt-ltb}
use lib.Dec.{ltb}
use lib.ListN.{length, get_or, take, drop}
use lib.Seq.{slice, length-slice, get_or-drop, get_or-take}
use Rattle.format.specs.Lists.{greatest, least}
use Rattle.format.specs.Grouping.{digits_in, bits, width_of, cost}
use Rattle.laws.specs.Extremes.{least-lower, fits_width}
use Rattle.numbers.specs.Windows.{window_of, widened_by}
use Rattle.numbers.specs.declared.Window.{Window}
use Rattle.numbers.proofs.Windows.{window-ordered, window-width}
use Rattle.grouping.specs.Rule.{Level, Stops, Seen, Known}
use Rattle.grouping.proofs.Slices.{reach-takes}
use Rattle.grouping.proofs.Levels.{window-next, width-longer, level-window}

level-width : (xs : List ℕ) → Level xs → width_of xs ≡ 0
unfolding width_of bits digits_in
level-width xs h = let e : greatest xs - least xs ≡ 0 = omega arith in rw e

-- the numbers from `end` to i are looked at, and they are not too dear yet
pub record Looking (list : List ℕ) (end reach gain : ℕ) (w : Window) (i : ℕ) : Type 0 where
  pub window : w ≡ window_of (slice end i list)
  pub under : (reach - end) * width_of (slice end i list) < gain

module _ (list : List ℕ) (end reach gain : ℕ) where
  -- equal numbers need not be looked at
  pub looking-start : {level : ℕ} → Seen list end level reach → end < level → 0 < gain → {x : ℕ} → x ≡ get_or list end 0 → {w : Window} → w ≡ window_of (x ∷ [])
      → Looking list end reach gain w level
  looking-start {level} s h some ex ew = record {
    window = rw ex at ew ∙ sym (level-window list end level h (omega (arith, s.within, s.far)) s.flat);
    under = rw (level-width (slice end level list) s.flat, mul-zero) some;
  }

  module _ (far : reach ≤ length list) {w : Window} {i : ℕ} (s : Looking list end reach gain w i) (from : end < i) where
    module _ (l : i < reach) {x : ℕ} {w' : Window} (ex : x ≡ get_or list i 0) (ew : w' ≡ widened_by w x) where
      next-window : w' ≡ window_of (slice end (i + 1) list)
      next-window = window-next list end i from (omega arith) s.window ex ew

      pub next-ordered : w'.least ≤ w'.greatest
      next-ordered = window-ordered (slice end (i + 1) list) next-window

      module _ {y : ℕ} (ey : y ≡ bits (w'.greatest - w'.least)) where
        next-width : (reach - end) * y ≡ (reach - end) * width_of (slice end (i + 1) list)
        next-width = ap (λ (n : ℕ). (reach - end) * n) (window-width (slice end (i + 1) list) next-window ey)

        -- a longer piece has no smaller range
        pub looking-stops : gain ≤ (reach - end) * y → false ≡ ltb (cost width_of (slice end reach list)) gain
        looking-stops h =
            let n = length-slice end reach list far in
            let m = mul-le-mul_left (reach - end) (width-longer list end (i + 1) (omega arith) reach (omega arith) far) in
            rw n (sym (le-ltb ((reach - end) * width_of (slice end reach list)) gain (omega (arith, next-width))))

        pub looking-more : (reach - end) * y < gain → Looking list end reach gain w' (i + 1)
        looking-more h = record { window = next-window; under = rw next-width at h }

    pub looking-end : i ≡ reach → true ≡ ltb (cost width_of (slice end reach list)) gain
    looking-end e =
        let u = rw e at s.under in
        rw (length-slice end reach list far) (sym (lt-ltb ((reach - end) * width_of (slice end reach list)) gain u))

module _ (list : List ℕ) (end reach gain : ℕ) (far : reach ≤ length list) where
  -- where two numbers ahead differ, each of them costs a bit at least
  slice_at : (i : ℕ) → end + i < reach → get_or (slice end reach list) i 0 ≡ get_or list (end + i) 0
  slice_at i l = get_or-drop end (take reach list) i 0 ∙ get_or-take reach list (end + i) 0 l

  pub looking-differs : (i : ℕ) → end < i → i < reach → (get_or list i 0 ≡ get_or list end 0 → ⊥) → gain ≤ reach - end
      → false ≡ ltb (cost width_of (slice end reach list)) gain
  looking-differs i h l other dear = by_width (width_of (slice end reach list)) refl
    where
      xs : List ℕ
      xs = slice end reach list

      long : length xs ≡ reach - end
      long = length-slice end reach list far

      p : end + (i - end) ≡ i
      p = omega arith

      near : get_or xs (i - end) 0 ≡ get_or list i 0
      near = slice_at (i - end) (omega arith) ∙ ap (λ (n : ℕ). get_or list n 0) p

      first : get_or xs 0 0 ≡ get_or list end 0
      first = slice_at 0 (omega arith) ∙ ap (λ (n : ℕ). get_or list n 0) (add-zero end)

      by_width : (w : ℕ) → width_of xs ≡ w → false ≡ ltb (cost width_of xs) gain
      by_width zero e =
          let one = rw e at (fits_width xs (i - end) (omega (arith, long))) in
          let two = rw e at (fits_width xs 0 (omega (arith, long))) in
          absurd (other (omega (arith, near, first, one, two, least-lower xs (i - end) (omega (arith, long)), least-lower xs 0 (omega (arith, long)))))
      by_width (suc w) e =
          let m : length xs * 1 ≤ length xs * suc w = mul-le-mul_left (length xs) (omega arith) in
          rw e (sym (le-ltb (length xs * suc w) gain (omega (arith, long))))

-- ---- what looking ahead answers

module _ (list : List ℕ) (k end gain : ℕ) {count m : ℕ} (ec : count ≡ length list) (em : m ≡ min k (count - end)) (there : end < length list) where
  abbrev reach : ℕ
  reach = end + m

  pub known : {level : ℕ} → (end < level) × (level ≤ reach) × Level (slice end level list) × Stops list end level reach → Known list k end level
  known h = record { flat = h.2; within = omega (arith, h.1); near = omega (arith, h.1) }

  pub looked : {b t : Bool} → b ≡ ltb (cost width_of (slice end reach list)) gain → b ≡ t → ltb (cost width_of (take k (drop end list))) gain ≡ t
  looked e et =
      let d : take k (drop end list) ≡ slice end reach list = rw (em, ec) (reach-takes list k end (omega arith)) in
      ap (λ (l : List ℕ). ltb (cost width_of l) gain) d ∙ sym e ∙ et

  -- where one bit a number is too dear, and equal numbers end before all are looked at, nothing else is to be seen
  pub dear : {level : ℕ} → (end < level) × (level ≤ reach) × Level (slice end level list) × Stops list end level reach
      → level < reach → gain ≤ reach - end → ltb (cost width_of (take k (drop end list))) gain ≡ false
  dear {level} h l d = looked (looking-differs list end reach gain (omega arith) level h.0 l (h.3 l) d) refl
