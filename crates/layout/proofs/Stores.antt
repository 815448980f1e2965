-- Things stored one behind the other, and a number octet by octet or as the library has its octets. Assumes nothing.
use mathlib.Core.Path.{◌≡◌, refl, sym, ap, ap₂, ◌∙◌}
use mathlib.Core.List.{List, [], ◌∷◌, ◌++◌, append-nil, flat_map}
use lib.ListN.{set}
use native.Mathlib.Nat.{div-div-eq-div-mul}
use lib.Pow.{pow-add}
use lib.Seq.{set_comm}
use Rattle.format.specs.Layout.{point_octets, mark_of, held_by}
use Rattle.format.specs.declared.DecodedValue.{DecodedValue}
use Rattle.laws.specs.Stores.{sets_more, octet-power}
use Rattle.laws.specs.Lists.{listed-add}
use native.Mathlib.Numerals.{add-one}
use Prim.Native.Nat.{◌<◌}
use Prim.Native.Nat.{ℕ, zero, suc, ◌+◌, ◌-◌, ◌*◌, ◌/◌, ◌%◌, ◌^◌, ◌≤◌}
use native.Mathlib.Omega.{arith}
use borrow.Rule.Slice.PartMut.{put_mid}
use Rattle.std.specs.Int.{byte_at, bytes_high_first}
use Rattle.std.proofs.Common.{append_assoc, zero-mul, take_all, add-mul, div-one, drop-drop, take, drop, length-drop, length-take-le}
use Rattle.std.proofs.lemmas.List.Edits.{sets-eq}
use Rattle.std.proofs.lemmas.List.{drop_all}
use lib.ListN.{length}
use lib.Seq.{sets}
use lib.IntN.{ℤ, pos, negsuc}
use mir.Syntax.{w64}
use mir.Val.{of_z}
use Rattle.format.specs.Lists.{listed, ◌over◌}
use Rattle.format.specs.Layout.{big_endian, twos_complement}
use Rattle.laws.specs.Stores.{sets-append, sets-front, flat_append, length-flat}
use Rattle.laws.specs.Lists.{length-listed, listed-ext}

-- ---- things of one size, one behind the other

module _ {A : Type 0} (octets_of : A → List ℕ) (size : ℕ) (lent : List ℕ) (from : ℕ) where
  -- those are stored, from thing `from` on
  abbrev pub Things : List A → List ℕ → Type 0
  Things xs octets = octets ≡ sets lent (from * size) (flat_map octets_of xs)

  pub none_stored : Things [] lent
  unfolding flat_map
  none_stored = refl

  -- and one more, right behind them
  pub more_stored : ((x : A) → length (octets_of x) ≡ size) → (xs : List A) (x : A) (k : ℕ) {octets next : List ℕ} → Things xs octets → k ≡ from + length xs
      → next ≡ sets octets (k * size) (octets_of x) → Things (xs ++ (x ∷ [])) next
  unfolding flat_map
  more_stored long xs x k s l e =
      let place : k * size ≡ from * size + length (flat_map octets_of xs) = rw (l, length-flat octets_of size long xs) (add-mul from (length xs) size) in
      e ∙ rw (place, s) (sets-append lent (from * size) (flat_map octets_of xs) (octets_of x))
      ∙ ap (sets lent (from * size)) (ap (λ (l : List ℕ). flat_map octets_of xs ++ l) (sym (append-nil (octets_of x))) ∙ sym (flat_append octets_of xs (x ∷ [])))

-- all of a list, from the first octet on
pub all_stored : {A : Type 0} (octets_of : A → List ℕ) (size : ℕ) → ((x : A) → length (octets_of x) ≡ size) → (xs : List A) (lent : List ℕ) {octets : List ℕ} (k : ℕ) → Things octets_of size lent 0 (take k xs) octets
    → length xs ≤ k → length xs * size ≤ length lent → octets ≡ flat_map octets_of xs over lent
all_stored octets_of size long xs lent k s l r =
    s ∙ rw (zero-mul size, take_all k xs l) (sets-front lent (flat_map octets_of xs) (omega (arith, length-flat octets_of size long xs)))

-- a part of the octets that is stored by itself
pub part_stored : (octets : List ℕ) (at k : ℕ) (part xs : List ℕ) → part ≡ xs → length xs ≡ k → at + k ≤ length octets → put_mid at k octets part ≡ sets octets at xs
part_stored octets at k part xs e l r =
    rw (e, drop-drop, ← l) (sym (sets-eq xs octets at (omega arith) ∙ append_assoc (take at octets) xs (drop (at + length xs) octets)))

-- ---- octets by the library's word

byte-is : (k x : ℕ) → byte_at k x ≡ x / 256 ^ k % 256
byte-is zero x = ap (λ (n : ℕ). n % 256) (sym (div-one x))
byte-is (suc k) x = refl

pub high_first : (n x : ℕ) → bytes_high_first n x ≡ big_endian n x
unfolding listed
high_first zero x = refl
high_first (suc n) x =
    let e : suc n - 1 ≡ n = omega arith in
    ap₂ (λ (o : ℕ) (os : List ℕ). o ∷ os)
    (byte-is n x ∙ rw e)
    (high_first n x ∙ listed-ext n _ _ (λ i l. let m : suc n - suc (suc i) ≡ n - suc i = omega arith in rw m))

-- of a signed number
pub signed-is : (z : ℤ) → of_z w64 z ≡ twos_complement z
signed-is (pos n) = refl
signed-is (negsuc n) = refl

-- a number's octets, as a part
pub number_stored : (octets : List ℕ) (at k n x : ℕ) {part : List ℕ} → part ≡ bytes_high_first n x → n ≡ k → at + n ≤ length octets → put_mid at k octets part ≡ sets octets at (big_endian n x)
number_stored octets at k n x e l r = part_stored octets at k _ _ (e ∙ high_first n x) (length-listed n (λ i. x / 256 ^ (n - suc i) % 256) ∙ l) (omega arith)

-- things that lie over all of a part
pub all_of_part : (octets : List ℕ) (at k : ℕ) {part : List ℕ} (xs : List ℕ) → part ≡ xs over take k (drop at octets) → length xs ≡ k → at + k ≤ length octets → put_mid at k octets part ≡ sets octets at xs
all_of_part octets at k xs e l r =
    let m : length (take k (drop at octets)) ≤ length xs = omega (arith, length-take-le k (drop at octets) (omega (arith, length-drop at octets))) in
    part_stored octets at k _ xs (e ∙ rw (drop_all (length xs) (take k (drop at octets)) m) (append-nil xs)) l r

-- ---- a number, octet by octet

-- a turn of the loop that stores the n octets of x
pub octet-stored : (octets₀ : List ℕ) (at x n i : ℕ) {octets : List ℕ} {octet : ℕ} → octets ≡ sets octets₀ at (listed i (λ k. x / 256 ^ (n - suc k) % 256))
    → octet ≡ x / 2 ^ ((n - 1 - i) * 8) % 256 → set octets (at + i) octet ≡ sets octets₀ at (listed (i + 1) (λ k. x / 256 ^ (n - suc k) % 256))
octet-stored octets₀ at x n i s e =
    let m : n - 1 - i ≡ n - suc i = omega arith in
    rw (s, e, octet-power (n - 1 - i), m) (sets_more (λ k. x / 256 ^ (n - suc k) % 256) octets₀ at i)

-- a mark, stored before what stands behind it
pub sets-before : (octets : List ℕ) (at mark : ℕ) (i : ℕ) (xs : List ℕ) → at < i → set (sets octets i xs) at mark ≡ sets (set octets at mark) i xs
sets-before octets at mark i [] l = refl
sets-before octets at mark i (x ∷ xs) l =
    sets-before (set octets i x) at mark (suc i) xs (omega arith) ∙ ap (λ (o : List ℕ). sets o (suc i) xs) (set_comm octets i at x mark (λ e. omega arith))

-- a store before another that was made first
sets-swapped : (octets : List ℕ) (at i : ℕ) (ys xs : List ℕ) → at + length ys ≤ i → sets (sets octets i xs) at ys ≡ sets (sets octets at ys) i xs
sets-swapped octets at i [] xs l = refl
sets-swapped octets at i (y ∷ ys) xs l =
    ap (λ (o : List ℕ). sets o (suc at) ys) (sets-before octets at y i xs (omega arith)) ∙ sets-swapped (set octets at y) (suc at) i ys xs (omega arith)

-- the upper octets of a number, and the lower ones
halves : (m n x : ℕ) → big_endian m (x / 256 ^ n) ++ big_endian n x ≡ big_endian (m + n) x
halves m n x =
    sym
    (listed-add m n (λ i. x / 256 ^ (m + n - suc i) % 256)
    ∙ ap₂ (λ (l r : List ℕ). l ++ r)
    (listed-ext m _ _ (λ i l. upper i l))
    (listed-ext n _ _ (λ i l. let e : m + n - suc (m + i) ≡ n - suc i = omega arith in rw e)))
  where
    upper : (i : ℕ) → i < m → x / 256 ^ (m + n - suc i) % 256 ≡ x / 256 ^ n / 256 ^ (m - suc i) % 256
    upper i l =
        let e : m + n - suc i ≡ n + (m - suc i) = omega arith in
        rw (e, pow-add 256 n (m - suc i), ← div-div-eq-div-mul x (256 ^ n) (256 ^ (m - suc i)))

-- a point's number in two halves, the lower one first, and then its mark
pub point-stored : (octets : List ℕ) (at : ℕ) (point : DecodedValue) {mark number : ℕ} {a b : List ℕ}
    → number ≡ twos_complement (held_by point) → a ≡ sets octets (at + 5) (big_endian 4 number) → b ≡ sets a (at + 1) (big_endian 4 (number / 4294967296))
    → mark ≡ mark_of point → set b at mark ≡ sets octets at (point_octets point)
point-stored octets at point {mark} {number} {a} {b} en ea eb em =
    let upper = big_endian 4 (number / 4294967296) in
    let lower = big_endian 4 number in
    let size : length upper ≡ 4 = length-listed 4 (λ i. number / 4294967296 / 256 ^ (4 - suc i) % 256) in
    let place : at + 1 + length upper ≡ at + 5 = omega arith in
    let swapped : b ≡ sets (sets octets (at + 1) upper) (at + 1 + length upper) lower = rw (eb, ea, place) (sets-swapped octets (at + 1) (at + 5) upper lower (omega arith)) in
    let whole : b ≡ sets octets (at + 1) (big_endian 8 number) = swapped ∙ sets-append octets (at + 1) upper lower ∙ ap (sets octets (at + 1)) (halves 4 4 number) in
    rw (← en, ← em, whole, add-one at) (sets-before octets at mark (suc at) (big_endian 8 number) (omega arith))
