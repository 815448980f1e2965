-- Windows over parts of a list, and parts whose numbers are all equal. Assumes nothing.
use mathlib.Core.Path.{◌≡◌, refl, sym, ap, ap₂, ◌∙◌}
use mathlib.Core.List.{List, [], ◌∷◌}
use Prim.Native.Nat.{ℕ, suc, ◌+◌, ◌≤◌, ◌<◌, max}
use native.Mathlib.Numerals.{add-one}
use native.Mathlib.Omega.{arith, max_cases}
use lib.ListN.{length, get_or, take, drop}
use lib.Seq.{slice, slice-cons, length-slice}
use Rattle.format.specs.Lists.{greatest, least}
use Rattle.format.specs.Grouping.{width_of}
use Rattle.laws.specs.Extremes.{greatest-upper, least-lower, least-greatest, width-more}
use Rattle.numbers.specs.Windows.{window_of, widened_by}
use Rattle.numbers.specs.declared.Window.{Window}
use Rattle.numbers.proofs.Windows.{window_more}
use Rattle.grouping.specs.Rule.{Level}
use Rattle.grouping.proofs.Slices.{slice_snoc, slice-none, slice-longer}

-- ---- windows

abbrev window : ℕ → ℕ → Window
window l g = record { least = l; greatest = g }

module _ (l : List ℕ) (f t : ℕ) (h : f < t) where
  -- one number more
  pub window-next : t < length l → {w v : Window} {x : ℕ} → w ≡ window_of (slice f t l) → x ≡ get_or l t 0 → v ≡ widened_by w x → v ≡ window_of (slice f (t + 1) l)
  window-next k ew ex ev = rw (slice_snoc l f t 0 (omega arith) k) (window_more (slice f t l) ew (get_or l t 0) (omega (arith, length-slice f t l (omega arith))) ex ev)

  -- and as many more as are wanted: no narrower
  pub width-longer : (m : ℕ) → t ≤ m → m ≤ length l → width_of (slice f t l) ≤ width_of (slice f m l)
  width-longer m i k = rw (slice-longer l f t m (omega arith) i k) (width-more (slice f t l) (drop t (take m l)) (omega (arith, length-slice f t l (omega arith))))

  -- the first number lies between the least and the greatest
  pub least_first : t ≤ length l → least (slice f t l) ≤ get_or l f 0
  least_first k = rw (slice-cons f t l 0 h k) (least-lower (get_or l f 0 ∷ slice (suc f) t l) 0 (omega arith))

  pub greatest-first : t ≤ length l → get_or l f 0 ≤ greatest (slice f t l)
  greatest-first k = rw (slice-cons f t l 0 h k) (greatest-upper (get_or l f 0 ∷ slice (suc f) t l) 0 (omega arith))

-- ---- equal numbers

module _ (x : ℕ) where
  pub window-one : window_of (x ∷ []) ≡ window x x
  unfolding greatest least
  window-one = ap (window x) (omega arith)

tail-level : (x : ℕ) (xs : List ℕ) → Level (x ∷ xs) → Level xs
unfolding greatest least
tail-level x [] h = refl
tail-level x (y ∷ ys) h = omega (arith, least-greatest (y ∷ ys))

module _ (l : List ℕ) (f t : ℕ) where
  -- from the next place on
  pub level-later : t ≤ length l → Level (slice f t l) → Level (slice (f + 1) t l)
  unfolding greatest least
  level-later k h =
      max_cases (f + 1) t _
      (λ i e. rw add-one (tail-level (get_or l f 0) (slice (suc f) t l) (rw (slice-cons f t l 0 (omega arith) k) at h)))
      (λ i e. rw (slice-none l (f + 1) t i))

  module _ (h : f < t) (k : t ≤ length l) (e : Level (slice f t l)) where
    pub level-window : window_of (slice f t l) ≡ window_of (get_or l f 0 ∷ [])
    level-window = let a = least_first l f t h k in let b = greatest-first l f t h k in ap₂ window (omega arith) (omega arith) ∙ sym (window-one (get_or l f 0))

    -- one more of them
    pub level-next : t < length l → get_or l t 0 ≡ get_or l f 0 → Level (slice f (t + 1) l)
    level-next m d =
        let w = window-next l f t h m refl refl refl in
        omega (arith, ap (λ (x : Window). x.least) w, ap (λ (x : Window). x.greatest) w, least_first l f t h k, greatest-first l f t h k)

  -- a turn of the loop that looks for their end
  pub level-turn : f < t → Level (slice f t l) → {reach : ℕ} → t < reach → reach ≤ length l → {x y : ℕ} → x ≡ get_or l t 0 → y ≡ get_or l f 0 → x ≡ y → Level (slice f (t + 1) l)
  level-turn h e m n ex ey d = level-next h (omega arith) e (omega arith) (cc)

  -- of one number
  pub level-behind : f < length l → t ≤ length l → Level (slice f t l) → {i : ℕ} → i ≡ max (f + 1) t → Level (slice f i l)
  unfolding greatest least
  level-behind m k h ei =
      rw ei
      (max_cases (f + 1) t _
      (λ i e. rw e h)
      (λ i e. rw (e, slice_snoc l f f 0 (omega arith) m, slice-none l f f (omega arith)) (omega arith)))
