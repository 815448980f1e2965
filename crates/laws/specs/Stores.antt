-- A store of some octets at a place, however many they are, and things that lie end to end in lent octets. Assumes nothing.
use Rattle.std.specs.Prelude.{◌≡◌, get_or, take, drop, set}
use Rattle.std.proofs.Math.Path.{refl, sym, ap}
use Rattle.std.proofs.Common.{◌∙◌, add-zero, add-suc, suc-add, zero-mul, add-mul, div-add-mod', div-one, mod-lt, zero-lt-suc, add-one, length-set, pow-add, get_or-set_same, get_or-set_other, take_at, drop_at, get_or-append-add}
use mathlib.Core.List.{List, [], ◌∷◌, ◌++◌, append_assoc, flat_map}
use Prim.Native.Nat.{ℕ, zero, suc, ◌+◌, ◌-◌, ◌*◌, ◌/◌, ◌%◌, ◌^◌, ◌≤◌, ◌<◌}
use Rattle.std.proofs.Math.Nat.{zero-add, suc-mul, sub-zero, sub_self, pow-zero, pow-suc, div-div-eq-div-mul, div-eq_of_lt}
use native.Mathlib.Omega.{arith}
use Rattle.std.proofs.Math.ListN.{length, length-append, get_or-append}
use Rattle.std.proofs.lemmas.List.Edits.{sets, sets-eq}
use Rattle.std.proofs.Math.Seq.{drop-append-add}
use Rattle.format.specs.Lists.{listed, whole_ones, ◌over◌}
use Rattle.format.specs.Bits.{number_of, number_at, field_of}
use Rattle.format.specs.Layout.{number_size, numbers_in}
use Rattle.laws.specs.Lists.{length-listed, get_or-listed, listed_more}
use Rattle.laws.specs.Bits.{number-octet}

-- ---- `sets`: elements stored one after another from a place on

module _ {A : Type 0} where
  -- one store, and the next one right behind it, are one
  pub sets-append : (l : List A) (at : ℕ) (xs ys : List A) → sets (sets l at xs) (at + length xs) ys ≡ sets l at (xs ++ ys)
  sets-append l at [] ys = rw (add-zero at)
  sets-append l at (x ∷ xs) ys = rw (add-suc at (length xs), ← suc-add at (length xs)) (sets-append (set l at x) (suc at) xs ys)

  -- a turn of a loop that stores f 0, f 1, .. from a place on
  pub sets_more : (f : ℕ → A) (l : List A) (at i : ℕ) → set (sets l at (listed i f)) (at + i) (f i) ≡ sets l at (listed (i + 1) f)
  sets_more f l at i =
      rw (listed_more i f) (ap (λ (n : ℕ). set (sets l at (listed i f)) (at + n) (f i)) (sym (length-listed i f)) ∙ sets-append l at (listed i f) (f i ∷ []))

  -- a store at the front
  pub sets-front : (l xs : List A) → length xs ≤ length l → sets l 0 xs ≡ xs over l
  sets-front l xs h = sets-eq xs l 0 (omega arith) ∙ rw (zero-add (length xs))

  -- and one right behind what is there
  pub sets_over : (l xs ys : List A) → length xs + length ys ≤ length l → sets (xs over l) (length xs) ys ≡ (xs ++ ys) over l
  sets_over l xs ys h =
      rw (← sets-front l xs (omega arith), ← zero-add (length xs)) (sets-append l 0 xs ys ∙ sets-front l (xs ++ ys) (omega (arith, length-append xs ys)))

  -- a store in the place of as much
  pub sets-mid : (before old new behind : List A) (at : ℕ) → length before ≡ at → length new ≡ length old
      → sets (before ++ (old ++ behind)) at new ≡ before ++ (new ++ behind)
  sets-mid before old new behind at e h =
      let long = length-append before (old ++ behind) in
      sets-eq new (before ++ (old ++ behind)) at (omega (arith, long, length-append old behind))
      ∙ rw (← e, take_at before (old ++ behind) (length before) refl, drop-append-add before (old ++ behind) (length new), drop_at old behind (length new) (sym h))
      (append_assoc before new behind)

-- what stands where, after a store
module _ {A : Type 0} (d : A) where
  -- a store leaves what it does not reach
  pub sets-other : (l : List A) (at : ℕ) (vs : List A) (i : ℕ) → ((k : ℕ) → k < length vs → at + k ≡ i → ⊥) → get_or (sets l at vs) i d ≡ get_or l i d
  sets-other l at [] i h = refl
  sets-other l at (v ∷ vs) i h =
      sets-other (set l at v) (suc at) vs i (λ k m e. h (suc k) (omega arith) (omega arith))
      ∙ get_or-set_other l at i v d (λ e. h 0 (omega arith) (omega arith))

  pub sets-there : (l : List A) (at : ℕ) (vs : List A) (k : ℕ) → k < length vs → at + length vs ≤ length l → get_or (sets l at vs) (at + k) d ≡ get_or vs k d
  sets-there l at [] k h r = absurd (omega arith)
  sets-there l at (v ∷ vs) zero h r =
      rw (add-zero at) (sets-other (set l at v) (suc at) vs at (λ k m e. omega arith) ∙ get_or-set_same l at v d (omega arith))
  sets-there l at (v ∷ vs) (suc k) h r =
      rw (add-suc at k, ← suc-add at k) (sets-there (set l at v) (suc at) vs k (omega arith) (rw (length-set l at v) (omega arith)))

-- ---- things of one size, end to end

module _ {A : Type 0} (octets : A → List ℕ) where
  pub flat_append : (xs ys : List A) → flat_map octets (xs ++ ys) ≡ flat_map octets xs ++ flat_map octets ys
  unfolding flat_map
  flat_append [] ys = refl
  flat_append (x ∷ xs) ys = ap (λ (l : List ℕ). octets x ++ l) (flat_append xs ys) ∙ sym (append_assoc (octets x) (flat_map octets xs) (flat_map octets ys))

  pub length-flat : (size : ℕ) → ((x : A) → length (octets x) ≡ size) → (xs : List A) → length (flat_map octets xs) ≡ length xs * size
  unfolding flat_map
  length-flat size h [] = sym (zero-mul size)
  length-flat size h (x ∷ xs) = length-append (octets x) (flat_map octets xs) ∙ omega (arith, h x, length-flat size h xs, suc-mul (length xs) size)

  -- octet i of thing j
  pub flat-at : (size : ℕ) → ((x : A) → length (octets x) ≡ size) → (xs : List A) (rest : List ℕ) (d : A) (j i : ℕ) → j < length xs → i < size
      → get_or (flat_map octets xs ++ rest) (j * size + i) 0 ≡ get_or (octets (get_or xs j d)) i 0
  unfolding flat_map
  flat-at size h [] rest d j i l m = absurd (omega arith)
  flat-at size h (x ∷ xs) rest d zero i l m =
      rw (zero-mul size, zero-add i, append_assoc (octets x) (flat_map octets xs) rest) (get_or-append (octets x) (flat_map octets xs ++ rest) 0 i (omega (arith, h x)))
  flat-at size h (x ∷ xs) rest d (suc j) i l m =
      let e : suc j * size + i ≡ length (octets x) + (j * size + i) = omega (arith, h x, suc-mul j size) in
      rw (e, append_assoc (octets x) (flat_map octets xs) rest) (get_or-append-add (octets x) (flat_map octets xs ++ rest) (j * size + i) 0 ∙ flat-at size h xs rest d j i (omega arith) m)

  -- the octets of thing j
  pub flat-cut : (size : ℕ) → ((x : A) → length (octets x) ≡ size) → (xs : List A) (rest : List ℕ) (d : A) (j : ℕ) → j < length xs
      → take size (drop (j * size) (flat_map octets xs ++ rest)) ≡ octets (get_or xs j d)
  unfolding flat_map
  flat-cut size h [] rest d j l = absurd (omega arith)
  flat-cut size h (x ∷ xs) rest d zero l =
      rw (zero-mul size, append_assoc (octets x) (flat_map octets xs) rest) (take_at (octets x) (flat_map octets xs ++ rest) size (h x))
  flat-cut size h (x ∷ xs) rest d (suc j) l =
      let e : suc j * size ≡ length (octets x) + j * size = omega (arith, h x, suc-mul j size) in
      rw (e, append_assoc (octets x) (flat_map octets xs) rest, drop-append-add (octets x) (flat_map octets xs ++ rest) (j * size)) (flat-cut size h xs rest d j (omega arith))

  -- more of them, stored right behind those that are there
  pub flat-over : (size : ℕ) → ((x : A) → length (octets x) ≡ size) → (l : List ℕ) (xs ys : List A) → (length xs + length ys) * size ≤ length l
      → sets (flat_map octets xs over l) (length xs * size) (flat_map octets ys) ≡ flat_map octets (xs ++ ys) over l
  flat-over size h l xs ys r =
      rw (flat_append xs ys, ← length-flat size h xs)
      (sets_over l (flat_map octets xs) (flat_map octets ys) (omega (arith, length-flat size h xs, length-flat size h ys, add-mul (length xs) (length ys) size)))

-- ---- octets of a number

pub octet-power : (n : ℕ) → 2 ^ (n * 8) ≡ 256 ^ n
octet-power zero = refl
octet-power (suc n) = rw (suc-mul n 8, pow-add 2 (n * 8) 8, octet-power n) (sym (pow-suc 256 n))

-- a number that stands in n octets is read back
module _ (octets : List ℕ) (at n x : ℕ) (there : (i : ℕ) → i < n → get_or octets (at + i) 0 ≡ x / 256 ^ (n - suc i) % 256) (small : x < 256 ^ n) where
  -- its first k octets
  first-octets : (k : ℕ) → k ≤ n → number_at octets (at * 8) (k * 8) ≡ x / 256 ^ (n - k)
  unfolding number_of
  first-octets zero l = rw (sub-zero n) (sym (div-eq_of_lt small))
  first-octets (suc k) l =
      let y : ℕ = x / 256 ^ (n - suc k) in
      let e : n - k ≡ suc (n - suc k) = omega arith in
      let high : x / 256 ^ (n - k) ≡ y / 256 = rw (e, pow-suc 256 (n - suc k)) (sym (div-div-eq-div-mul x (256 ^ (n - suc k)) 256)) in
      ap (λ (m : ℕ). number_at octets (at * 8) (m * 8)) (sym (add-one k)) ∙ sym (number-octet octets at k (rw (there k l) (mod-lt y (zero-lt-suc 255))))
      ∙ rw (there k l, first-octets k (omega arith), high) (div-add-mod' y 256)

  pub number-back : number_at octets (at * 8) (n * 8) ≡ x
  number-back = first-octets n (omega arith) ∙ rw (sub_self n, pow-zero, div-one x)

-- number k of those that lie end to end from the first octet on
pub field_at : (octets : List ℕ) (w n k : ℕ) → k < n → number_at octets (k * w) w ≡ get_or (field_of octets 0 w n) k 0
field_at octets w n k l =
    ap (λ (p : ℕ). number_at octets p w) (sym (zero-add (k * w))) ∙ sym (get_or-listed n (λ i. number_at octets (0 + i * w) w) 0 k l)

-- of those that octets hold, four each
pub number-listed : (octets : List ℕ) (k : ℕ) → k < whole_ones number_size octets → number_at octets (k * 32) 32 ≡ get_or (numbers_in octets) k 0
number-listed octets k l = field_at octets 32 (whole_ones number_size octets) k l
