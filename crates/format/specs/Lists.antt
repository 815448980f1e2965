-- Words for lists that the other pages use. Assumes nothing.
use Rattle.std.specs.Prelude.{ℕ, zero, suc, ◌+◌, ◌/◌, max, min, Bool, false, cond, ◌||◌, List, [], ◌∷◌, ◌++◌, length, drop}

-- f 0, f 1, .., f (n - 1)
unfoldable pub listed : {A : Type 0} → ℕ → (ℕ → A) → List A
listed zero f = []
listed (suc n) f = f 0 ∷ listed n (λ i. f (suc i))

-- f 0 + f 1 + .. + f (n - 1)
unfoldable pub total : ℕ → (ℕ → ℕ) → ℕ
total zero f = 0
total (suc n) f = total n f + f n

-- f 0, then f 1, .., then f (n - 1), as one list
unfoldable pub joined : {A : Type 0} → ℕ → (ℕ → List A) → List A
joined zero f = []
joined (suc n) f = joined n f ++ f n

-- whether f holds of one of them
unfoldable pub any_of : {A : Type 0} → (A → Bool) → List A → Bool
any_of f [] = false
any_of f (x ∷ xs) = f x || any_of f xs

-- the first of 0, 1, .., n - 1 of which f holds; n where it holds of none
unfoldable pub first_where : ℕ → (ℕ → Bool) → ℕ
first_where zero f = 0
first_where (suc n) f = cond (f 0) 0 (suc (first_where n (λ i. f (suc i))))

-- the greatest and the least of some numbers; 0 of none
unfoldable pub greatest : List ℕ → ℕ
greatest [] = 0
greatest (x ∷ xs) = max x (greatest xs)

unfoldable pub least : List ℕ → ℕ
least [] = 0
least (x ∷ []) = x
least (x ∷ y ∷ ys) = min x (least (y ∷ ys))

-- "spare octets short of a whole one are not used": as many things of that size, in octets or in numbers, as lie whole in a list
abbrev pub whole_ones : {A : Type 0} → ℕ → List A → ℕ
whole_ones size xs = length xs / size

-- "After success, places past the answer are unchanged.": a lent buffer with xs at its front
infix 60 ◌over◌
abbrev pub ◌over◌ : {A : Type 0} → List A → List A → List A
xs over lent = xs ++ drop (length xs) lent
