-- The laws of the words for lists. Assumes nothing.
use Rattle.std.specs.Prelude.{◌≡◌, Bool, cond, ◌||◌, ◌&&◌, replicate, take, drop, set, get_or}
use Rattle.std.proofs.Math.Path.{refl, sym, ap, ap₂}
use Rattle.std.proofs.Common.{◌∙◌, not-suc-le-zero, add-zero, add-suc, add-one, arith, length-drop, drop_of_length-le, drop_at}
use Rattle.std.proofs.Math.Bool.{true, false, or-true}
use Rattle.std.proofs.lemmas.Bool.{false≢true}
use mathlib.Core.List.{List, [], ◌∷◌, ◌++◌, append_assoc, append-nil, map}
use Prim.Native.Nat.{ℕ, zero, suc, ◌+◌, ◌-◌, ◌≤◌, ◌<◌}
use Rattle.std.proofs.Math.Nat.{zero-add, suc-add, sub-zero, zero-sub}
use Rattle.std.proofs.Math.ListN.{length, length-append}
use Rattle.std.proofs.lemmas.List.{length-replicate, set_at}
use Rattle.std.proofs.Math.Seq.{slice, take-nil, drop-cons, append_snoc}
use Rattle.format.specs.Lists.{listed, total, joined, any_of, first_where, ◌over◌}

-- ---- listed

module _ {A : Type 0} where
  pub length-listed : (n : ℕ) (f : ℕ → A) → length (listed n f) ≡ n
  unfolding listed
  length-listed zero f = refl
  length-listed (suc n) f = ap suc (length-listed n (λ i. f (suc i)))

  pub get_or-listed : (n : ℕ) (f : ℕ → A) (d : A) (i : ℕ) → i < n → get_or (listed n f) i d ≡ f i
  unfolding listed
  get_or-listed zero f d i h = absurd (not-suc-le-zero h)
  get_or-listed (suc n) f d zero h = refl
  get_or-listed (suc n) f d (suc i) h = get_or-listed n (λ k. f (suc k)) d i (omega arith)

  -- what is listed depends on f at the places below n alone
  pub listed-ext : (n : ℕ) (f g : ℕ → A) → ((i : ℕ) → i < n → f i ≡ g i) → listed n f ≡ listed n g
  unfolding listed
  listed-ext zero f g h = refl
  listed-ext (suc n) f g h =
      ap₂ (λ (x : A) (l : List A). x ∷ l) (h 0 (omega arith)) (listed-ext n (λ i. f (suc i)) (λ i. g (suc i)) (λ i l. h (suc i) (omega arith)))

  pub listed-add : (n m : ℕ) (f : ℕ → A) → listed (n + m) f ≡ listed n f ++ listed m (λ i. f (n + i))
  unfolding listed
  listed-add zero m f = simp zero-add
  listed-add (suc n) m f = simp suc-add (ap (λ (l : List A). f 0 ∷ l) (listed-add n m (λ i. f (suc i))))

  pub listed_more : (n : ℕ) (f : ℕ → A) → listed (n + 1) f ≡ listed n f ++ (f n ∷ [])
  unfolding listed
  listed_more n f = listed-add n 1 f ∙ rw (add-zero n)

  -- the same at every place
  pub listed_same : (n : ℕ) (x : A) → listed n (λ k. x) ≡ replicate n x
  unfolding listed
  listed_same zero x = refl
  listed_same (suc n) x = ap (λ (l : List A). x ∷ l) (listed_same n x)

-- so many more of one
pub length_more : {A : Type 0} (xs : List A) (n : ℕ) (x : A) → length (xs ++ replicate n x) ≡ length xs + n
length_more xs n x = length-append xs (replicate n x) ∙ ap (λ (m : ℕ). length xs + m) (length-replicate n x)

-- the first n of a list
pub listed-front : {A : Type 0} (xs : List A) (d : A) (n : ℕ) → n ≤ length xs → listed n (λ k. get_or xs k d) ≡ take n xs
unfolding listed
listed-front xs d zero h = refl
listed-front [] d (suc n) h = absurd (omega arith)
listed-front {A} (x ∷ xs) d (suc n) h = ap (λ (l : List A). x ∷ l) (listed-front xs d n (omega arith))

pub map-listed : {A B : Type 0} (g : A → B) (n : ℕ) (f : ℕ → A) → map g (listed n f) ≡ listed n (λ i. g (f i))
unfolding listed
map-listed g zero f = refl
map-listed {B = B} g (suc n) f = ap (λ (l : List B). g (f 0) ∷ l) (map-listed g n (λ i. f (suc i)))

pub take-map : {A B : Type 0} (f : A → B) (n : ℕ) (xs : List A) → take n (map f xs) ≡ map f (take n xs)
unfolding map
take-map f zero xs = refl
take-map f (suc n) [] = refl
take-map {B = B} f (suc n) (x ∷ xs) = ap (λ (l : List B). f x ∷ l) (take-map f n xs)

pub length-map : {A B : Type 0} (f : A → B) (xs : List A) → length (map f xs) ≡ length xs
length-map f [] = refl
length-map f (x ∷ xs) = ap suc (length-map f xs)

module _ {A B : Type 0} (f : A → B) where
  pub map_at : (xs : List A) (d : A) (e : B) (k : ℕ) → k < length xs → get_or (map f xs) k e ≡ f (get_or xs k d)
  map_at [] d e k l = absurd (omega arith)
  map_at (x ∷ xs) d e zero l = refl
  map_at (x ∷ xs) d e (suc k) l = map_at xs d e k (omega arith)

  pub listed-map : (xs : List A) (d : A) {n : ℕ} → length xs ≡ n → listed n (λ k. f (get_or xs k d)) ≡ map f xs
  unfolding listed
  listed-map [] d {n} e = rw (← e)
  listed-map (x ∷ xs) d {n} e = rw (← e) (ap (λ (l : List B). f x ∷ l) (listed-map xs d refl))

-- ---- over

module _ {A : Type 0} where
  -- a turn of a loop that fills `lent` from its front: its store takes k elements to k + 1
  pub grown : (f : ℕ → A) (lent : List A) (k : ℕ) → k < length lent → set (listed k f over lent) k (f k) ≡ listed (k + 1) f over lent
  grown f lent k h =
      rw (
        length-listed k f,
        length-listed (k + 1) f,
        listed_more k f,
        add-one k,
        drop-cons lent k (f k) h,
        set_at (listed k f) (get_or lent k (f k)) (drop (suc k) lent) (f k) k (length-listed k f),
      )
      (sym (append_snoc (listed k f) (f k) (drop (suc k) lent)))

  pub length_over : (xs lent : List A) → length xs ≤ length lent → length (xs over lent) ≡ length lent
  length_over xs lent h = simp (length-append, length-drop) (omega arith)

-- ---- a part in the middle

-- a part of a lent slice, as the code takes it
pub take-of-drop : {A : Type 0} (a e : ℕ) (l : List A) → take (e - a) (drop a l) ≡ slice a e l
take-of-drop zero e l = rw (sub-zero e)
take-of-drop (suc a) zero l = rw (zero-sub (suc a))
take-of-drop (suc a) (suc e) [] = take-nil (suc e - suc a)
take-of-drop (suc a) (suc e) (x ∷ l) = let d : suc e - suc a ≡ e - a = omega arith in rw d (take-of-drop a e l)

-- ---- two tests

pub either_left : (a b : Bool) → (a || b) ≡ false → a ≡ false
either_left true b e = e
either_left false b e = refl

pub either-right : (a b : Bool) → (a || b) ≡ false → b ≡ false
either-right true b e = absurd (false≢true (sym e))
either-right false b e = e

pub both : (a b : Bool) → (a && b) ≡ true → (a ≡ true) × (b ≡ true)
both true b e = (refl, e)
both false b e = absurd (false≢true e)

-- ---- whether f holds of one

module _ {A : Type 0} (f : A → Bool) where
  pub any_here : (xs : List A) (d : A) (k : ℕ) → k < length xs → f (get_or xs k d) ≡ true → any_of f xs ≡ true
  unfolding any_of
  any_here [] d k l h = absurd (not-suc-le-zero l)
  any_here (x ∷ xs) d zero l h = rw h
  any_here (x ∷ xs) d (suc k) l h = rw (any_here xs d k (omega arith) h) (or-true (f x))

  pub any_none : (xs : List A) (d : A) → any_of f xs ≡ false → (k : ℕ) → k < length xs → f (get_or xs k d) ≡ false
  unfolding any_of
  any_none [] d h k l = absurd (not-suc-le-zero l)
  any_none (x ∷ xs) d h zero l = either_left (f x) (any_of f xs) h
  any_none (x ∷ xs) d h (suc k) l = any_none xs d (either-right (f x) (any_of f xs) h) k (omega arith)

  pub any-not : (xs : List A) (d : A) → ((k : ℕ) → k < length xs → f (get_or xs k d) ≡ false) → any_of f xs ≡ false
  unfolding any_of
  any-not [] d h = refl
  any-not (x ∷ xs) d h = rw (h 0 (omega arith)) (any-not xs d (λ k l. h (suc k) (omega arith)))

  -- a turn of a loop that looks for one: the one passed is none, so that those left decide
  pub any-later : (xs : List A) (d : A) (k : ℕ) → k < length xs → f (get_or xs k d) ≡ false → any_of f (drop k xs) ≡ any_of f (drop (k + 1) xs)
  unfolding any_of
  any-later xs d k l h = rw (add-one k, drop-cons xs k d l, h)

  pub any-end : (xs : List A) (k : ℕ) → length xs ≤ k → any_of f (drop k xs) ≡ false
  unfolding any_of
  any-end xs k l = rw (drop_of_length-le xs {i = k} l)

  pub any_append : (xs ys : List A) → any_of f xs ≡ false → any_of f (xs ++ ys) ≡ any_of f ys
  unfolding any_of
  any_append [] ys h = refl
  any_append (x ∷ xs) ys h = by-test (f x) refl (λ e. any_append xs ys e)
    where
      by-test : (t : Bool) → f x ≡ t → (any_of f xs ≡ false → any_of f (xs ++ ys) ≡ any_of f ys) → (f x || any_of f (xs ++ ys)) ≡ any_of f ys
      by-test true e again = absurd (false≢true (sym (rw e at h)))
      by-test false e again = rw e (again (rw e at h))

-- ---- totals and joined lists

pub total-next : (n : ℕ) (f : ℕ → ℕ) → total (n + 1) f ≡ total n f + f n
unfolding total
total-next n f = rw (add-one n)

-- a total depends on f at the places below n alone
pub total_ext : (n : ℕ) (f g : ℕ → ℕ) → ((i : ℕ) → i < n → f i ≡ g i) → total n f ≡ total n g
unfolding total
total_ext zero f g h = refl
total_ext (suc n) f g h = ap₂ (λ (x y : ℕ). x + y) (total_ext n f g (λ i l. h i (omega arith))) (h n (omega arith))

-- and grows with n
pub total-upto : (n m : ℕ) (f : ℕ → ℕ) → total n f ≤ total (n + m) f
unfolding total
total-upto n zero f = rw (add-zero n) (omega arith)
total-upto n (suc m) f = rw (add-suc n m) (omega (arith, total-upto n m f))

module _ {A : Type 0} where
  pub joined-next : (n : ℕ) (f : ℕ → List A) → joined (n + 1) f ≡ joined n f ++ f n
  unfolding joined
  joined-next n f = rw (add-one n)

  pub length-joined : (n : ℕ) (f : ℕ → List A) → length (joined n f) ≡ total n (λ k. length (f k))
  unfolding joined total
  length-joined zero f = refl
  length-joined (suc n) f = length-append (joined n f) (f n) ∙ ap (λ (m : ℕ). m + length (f n)) (length-joined n f)

  -- what is joined depends on f at the places below n alone
  pub joined-ext : (n : ℕ) (f g : ℕ → List A) → ((i : ℕ) → i < n → f i ≡ g i) → joined n f ≡ joined n g
  unfolding joined
  joined-ext zero f g h = refl
  joined-ext (suc n) f g h = ap₂ (λ (x y : List A). x ++ y) (joined-ext n f g (λ i l. h i (omega arith))) (h n (omega arith))

  pub joined-first : (n : ℕ) (f : ℕ → List A) → joined (suc n) f ≡ f 0 ++ joined n (λ i. f (suc i))
  unfolding joined
  joined-first zero f = sym (append-nil (f 0))
  joined-first (suc n) f = ap (λ (l : List A). l ++ f (suc n)) (joined-first n f) ∙ append_assoc (f 0) (joined n (λ i. f (suc i))) (f (suc n))

-- ---- the first number of which f holds

pub where-up-to : (n : ℕ) (f : ℕ → Bool) → first_where n f ≤ n
unfolding first_where
where-up-to zero f = omega arith
where-up-to (suc n) f = by-test (f 0) (where-up-to n (λ i. f (suc i)))
  where
    by-test : (t : Bool) {m : ℕ} → m ≤ n → cond t 0 (suc m) ≤ suc n
    by-test true l = omega arith
    by-test false l = omega arith

-- where there is one, it holds of it
pub where-holds : (n : ℕ) (f : ℕ → Bool) → first_where n f < n → f (first_where n f) ≡ true
unfolding first_where
where-holds zero f l = absurd (omega arith)
where-holds (suc n) f l = by-test (f 0) refl (where-holds n (λ i. f (suc i))) l
  where
    by-test : (t : Bool) → f 0 ≡ t → {m : ℕ} → (m < n → f (suc m) ≡ true) → cond t 0 (suc m) < suc n → f (cond t 0 (suc m)) ≡ true
    by-test true h below l = h
    by-test false h below l = below (omega arith)

-- and it is no later than any other
pub where-first : (n : ℕ) (f : ℕ → Bool) (k : ℕ) → f k ≡ true → first_where n f ≤ k
unfolding first_where
where-first zero f k h = omega arith
where-first (suc n) f zero h = rw h (omega arith)
where-first (suc n) f (suc k) h = by-test (f 0) (where-first n (λ i. f (suc i)) k h)
  where
    by-test : (t : Bool) {m : ℕ} → m ≤ k → cond t 0 (suc m) ≤ suc k
    by-test true l = omega arith
    by-test false l = omega arith

-- it holds of none below k; and of k, where k is not the end
pub where-is : (n : ℕ) (f : ℕ → Bool) (k : ℕ) → k ≤ n → ((i : ℕ) → i < k → f i ≡ false) → (k < n → f k ≡ true) → first_where n f ≡ k
unfolding first_where
where-is zero f k l below here = omega arith
where-is (suc n) f zero l below here = rw (here (omega arith))
where-is (suc n) f (suc k) l below here =
    rw (below 0 (omega arith)) (ap suc (where-is n (λ i. f (suc i)) k (omega arith) (λ i m. below (suc i) (omega arith)) (λ m. here (omega arith))))

-- ---- over what is over

-- as much over it leaves nothing of it
pub over-over : {A : Type 0} (xs ys lent : List A) → length xs ≡ length ys → xs over (ys over lent) ≡ xs over lent
over-over xs ys lent e = ap (λ l. xs ++ l) (rw e (drop_at ys (drop (length ys) lent) (length ys) refl))
