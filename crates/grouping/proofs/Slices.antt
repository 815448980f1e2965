-- Parts in the middle of a list: one element more, and what a look-ahead takes. Assumes nothing.
use mathlib.Core.Path.{◌≡◌, sym, ap, ◌∙◌}
use mathlib.Core.List.{List, [], ◌∷◌, ◌++◌}
use Prim.Native.Nat.{ℕ, ◌+◌, ◌-◌, ◌≤◌, ◌<◌, min}
use native.Mathlib.Numerals.{add-one}
use native.Mathlib.Omega.{arith, min_cases}
use lib.ListN.{length, get_or, take, drop, length-take, length-drop, drop_of_length-le, take-append-drop}
use lib.Seq.{slice, length-take-le, take_all, take-suc, take-take, drop-append-le}
use Rattle.laws.specs.Lists.{take-of-drop}

module _ {A : Type 0} (l : List A) where
  pub slice_snoc : (f t : ℕ) (d : A) → f ≤ t → t < length l → slice f (t + 1) l ≡ slice f t l ++ (get_or l t d ∷ [])
  slice_snoc f t d h k = rw (add-one t, take-suc l t d k) (drop-append-le f (take t l) (get_or l t d ∷ []) (omega (arith, length-take-le t l (omega arith))))

  pub slice-none : (f t : ℕ) → t ≤ f → slice f t l ≡ []
  slice-none f t h = drop_of_length-le (take t l) {i = f} (omega (arith, length-take t l))

  -- a longer part begins with a shorter one
  pub slice-longer : (f m t : ℕ) → f ≤ m → m ≤ t → t ≤ length l → slice f t l ≡ slice f m l ++ drop m (take t l)
  slice-longer f m t h i k =
      ap (drop f) (sym (take-append-drop m (take t l)) ∙ ap (λ (x : List A). x ++ drop m (take t l)) (take-take m t l i))
      ∙ drop-append-le f (take m l) (drop m (take t l)) (omega (arith, length-take-le m l (omega arith)))

  -- "The look-ahead takes up to k numbers from that one on"
  pub reach-takes : (k end : ℕ) → end ≤ length l → take k (drop end l) ≡ slice end (end + min k (length l - end)) l
  reach-takes k end h =
      let n = min k (length l - end) in
      let e : end + n - end ≡ n = omega arith in
      sym (sym (take-of-drop end (end + n) l) ∙ ap (λ (m : ℕ). take m (drop end l)) e ∙ by_end)
    where
      by_end : take (min k (length l - end)) (drop end l) ≡ take k (drop end l)
      by_end =
          let n = length-drop end l in
          min_cases k (length l - end) _ (λ i e. rw e) (λ i e. rw e (take_all (length l - end) (drop end l) (omega arith) ∙ sym (take_all k (drop end l) (omega arith))))
