-- All numbers but the last, which are coded, and the last, which is not. Assumes nothing.
use Rattle.std.specs.Prelude.{◌≡◌, refl, List, [], ◌∷◌, ◌++◌, ℕ, zero, suc, ◌+◌, ◌-◌, ◌<◌, length, get_or}
use Rattle.std.proofs.Common.{sym, ap, ◌∙◌, add-one, arith, length-append}
use Rattle.std.proofs.lemmas.List.{get_or_at}
use Rattle.format.specs.Lists.{listed}
use Rattle.format.specs.Packing.{but_last}
use Rattle.laws.specs.Lists.{listed_more}

pub but-last-snoc : (xs : List ℕ) (x : ℕ) → but_last (xs ++ (x ∷ [])) ≡ xs
unfolding but_last
but-last-snoc [] x = refl
but-last-snoc (y ∷ []) x = refl
but-last-snoc (y ∷ z ∷ zs) x = ap (λ (l : List ℕ). y ∷ l) (but-last-snoc (z ∷ zs) x)

pub last_snoc : (xs : List ℕ) (x : ℕ) → get_or (xs ++ (x ∷ [])) (length (xs ++ (x ∷ [])) - 1) 0 ≡ x
last_snoc xs x = get_or_at xs x [] 0 _ (omega (arith, length-append xs (x ∷ [])))

pub but-last-listed : (n : ℕ) (f : ℕ → ℕ) → but_last (listed n f) ≡ listed (n - 1) f
unfolding but_last listed
but-last-listed zero f = refl
but-last-listed (suc n) f =
    let e : n ≡ suc n - 1 = omega arith in
    ap (λ (m : ℕ). but_last (listed m f)) (sym (add-one n)) ∙ ap but_last (listed_more n f) ∙ but-last-snoc (listed n f) (f n)
    ∙ ap (λ (m : ℕ). listed m f) e

pub length-but-last : (xs : List ℕ) → length (but_last xs) ≡ length xs - 1
unfolding but_last
length-but-last [] = refl
length-but-last (x ∷ []) = refl
length-but-last (x ∷ y ∷ ys) = omega (arith, length-but-last (y ∷ ys))

pub but-last-at : (xs : List ℕ) (k : ℕ) → k + 1 < length xs → get_or (but_last xs) k 0 ≡ get_or xs k 0
unfolding but_last
but-last-at [] k l = absurd (omega arith)
but-last-at (x ∷ []) k l = absurd (omega arith)
but-last-at (x ∷ y ∷ ys) zero l = refl
but-last-at (x ∷ y ∷ ys) (suc k) l = but-last-at (y ∷ ys) k (omega arith)
