-- The groups of a list and their records: nothing is lost, none is empty, and lent octets give them back. Assumes nothing.
use Rattle.std.specs.Prelude.{◌≡◌, Bool, cond, get_or, take, drop}
use Rattle.std.proofs.Math.Path.{refl, ap, ap₂}
use Rattle.std.proofs.Common.{sym, ◌∙◌, arith, add-zero, take_at, drop_at, drop-drop, get_or-drop, get_or-take, ext_get_or}
use Rattle.std.proofs.Math.Bool.{true, false}
use mathlib.Core.List.{List, [], ◌∷◌, ◌++◌, append_assoc, append-nil, map, map-append, flat_map}
use Prim.Native.Nat.{ℕ, zero, suc, ◌+◌, ◌-◌, ◌*◌, ◌/◌, ◌%◌, ◌^◌, ◌≤◌, ◌<◌}
use Rattle.std.proofs.Math.ListN.{length, length-append, length-drop}
use Rattle.std.proofs.Math.Seq.{slice, length-slice}
use Rattle.format.specs.Lists.{listed, joined, greatest, least}
use Rattle.format.specs.Bits.{number_at}
use Rattle.format.specs.Layout.{big_endian, number_size, in_fours, numbers_per_group, group_numbers, group_size, group_octets}
use Rattle.format.specs.Refusals.{limit}
use Rattle.format.specs.Grouping.{width_of, ends_before, groups_from, groups_of, records_from}
use Rattle.format.specs.declared.Group.{Group}
use Rattle.laws.specs.Lists.{take-of-drop, length-listed, get_or-listed, listed-ext, listed-map, map-listed, joined-first}
use Rattle.laws.specs.Digits.{bits-le}
use Rattle.laws.specs.Extremes.{greatest-upper, greatest-each, least-lower, least-greatest, greatest-more, greatest-later, fits_width}
use Rattle.laws.specs.Stores.{length-flat, flat_append, flat-at, number-back}

-- ---- what the rule makes of a list, whatever the width and the added cost

-- the numbers of all groups, one after another
abbrev pub all_of : {A : Type 0} → List (List A) → List A
all_of groups = flat_map (λ group. group) groups

pub joined-map : {A B : Type 0} (f : A → B) (groups : List (List A)) {n : ℕ} → length groups ≡ n → joined n (λ g. map f (get_or groups g [])) ≡ map f (all_of groups)
unfolding joined map flat_map
joined-map f [] {n} e = rw (← e)
joined-map {B = B} f (group ∷ groups) {n} e =
    rw (← e)
    (joined-first (length groups) (λ g. map f (get_or (group ∷ groups) g []))
    ∙ ap (λ (l : List B). map f group ++ l) (joined-map f groups refl) ∙ sym (map-append f group (all_of groups)))

-- none is empty
abbrev pub NoneEmpty : {A : Type 0} → List (List A) → Type 0
NoneEmpty [] = Unit
NoneEmpty (group ∷ groups) = (0 < length group) × NoneEmpty groups

module _ {A : Type 0} (width : List A → ℕ) (added k : ℕ) where
  from_all : (group after : List A) → all_of (groups_from width added k group after) ≡ group ++ after
  unfolding groups_from flat_map
  from_all group [] = refl
  from_all group (next ∷ after) =
      by-test (ends_before width added k group next after)
      (groups_from width added k (next ∷ []) after)
      (groups_from width added k (group ++ (next ∷ [])) after)
      (from_all (next ∷ []) after)
      (from_all (group ++ (next ∷ [])) after ∙ append_assoc group (next ∷ []) after)
    where
      by-test : (b : Bool) (gs hs : List (List A)) → all_of gs ≡ next ∷ after → all_of hs ≡ group ++ (next ∷ after) → all_of (cond b (group ∷ gs) hs) ≡ group ++ (next ∷ after)
      by-test true gs hs e d = ap (λ (l : List A). group ++ l) e
      by-test false gs hs e d = d

  pub groups-all : (numbers : List A) → all_of (groups_of width added k numbers) ≡ numbers
  unfolding groups_of flat_map
  groups-all [] = refl
  groups-all (x ∷ xs) = from_all (x ∷ []) xs

  from-none-empty : (group after : List A) → 0 < length group → NoneEmpty (groups_from width added k group after)
  unfolding groups_from
  from-none-empty group [] h = (h, tt)
  from-none-empty group (next ∷ after) h =
      by-test (ends_before width added k group next after)
      (groups_from width added k (next ∷ []) after)
      (groups_from width added k (group ++ (next ∷ [])) after)
      (from-none-empty (next ∷ []) after (omega arith))
      (from-none-empty (group ++ (next ∷ [])) after (omega (arith, length-append group (next ∷ []))))
    where
      by-test : (b : Bool) (gs hs : List (List A)) → NoneEmpty gs → NoneEmpty hs → NoneEmpty (cond b (group ∷ gs) hs)
      by-test true gs hs e d = (h, e)
      by-test false gs hs e d = d

  pub groups-none-empty : (numbers : List A) → NoneEmpty (groups_of width added k numbers)
  unfolding groups_of
  groups-none-empty [] = tt
  groups-none-empty (x ∷ xs) = from-none-empty (x ∷ []) xs (omega arith)

-- where there is a number there is a group
pub some-groups : {A : Type 0} (groups : List (List A)) → 0 < length (all_of groups) → 0 < length groups
unfolding flat_map
some-groups [] h = h
some-groups (group ∷ groups) h = omega arith

pub groups-some : {A : Type 0} (width : List A → ℕ) (added k : ℕ) (numbers : List A) → 0 < length numbers → 0 < length (groups_of width added k numbers)
groups-some width added k numbers h = some-groups (groups_of width added k numbers) (rw (groups-all width added k numbers) h)

-- and no more of them than numbers
pub few-groups : {A : Type 0} (groups : List (List A)) → NoneEmpty groups → length groups ≤ length (all_of groups)
unfolding flat_map
few-groups [] h = omega arith
few-groups (group ∷ groups) h = omega (arith, h.0, few-groups groups h.1, length-append group (all_of groups))

-- a group among all
pub greatest-group : (groups : List (List ℕ)) (g : ℕ) → g < length groups → greatest (get_or groups g []) ≤ greatest (all_of groups)
unfolding flat_map
greatest-group [] g l = absurd (omega arith)
greatest-group (group ∷ groups) zero l = greatest-more group (all_of groups)
greatest-group (group ∷ groups) (suc g) l = omega (arith, greatest-group groups g (omega arith), greatest-later group (all_of groups))

pub length-group : (groups : List (List ℕ)) (g : ℕ) → g < length groups → length (get_or groups g []) ≤ length (all_of groups)
unfolding flat_map
length-group [] g l = absurd (omega arith)
length-group (group ∷ groups) zero l = omega (arith, length-append group (all_of groups))
length-group (group ∷ groups) (suc g) l = omega (arith, length-group groups g (omega arith), length-append group (all_of groups))

-- ---- records

pub length-records : (start : ℕ) (groups : List (List ℕ)) → length (records_from start groups) ≡ length groups
unfolding records_from
length-records start [] = refl
length-records start (group ∷ groups) = ap suc (length-records (start + length group) groups)

-- the numbers that a record speaks of: those of some records are groups again
abbrev pub own_numbers : List ℕ → Group → List ℕ
own_numbers numbers r = slice r.start (r.start + r.length) numbers

abbrev pub own_groups : List ℕ → List Group → List (List ℕ)
own_groups numbers records = map (own_numbers numbers) records

-- the record of one group of the numbers
pub record RecordOf (numbers : List ℕ) (r : Group) : Type 0 where
  pub some : 0 < r.length
  pub within : r.start + r.length ≤ length numbers
  pub least : r.least ≡ least (own_numbers numbers r)
  pub width : r.width ≡ width_of (own_numbers numbers r)

module _ {numbers : List ℕ} {r : Group} (h : RecordOf numbers r) where
  pub length-own : length (own_numbers numbers r) ≡ r.length
  length-own = length-slice r.start (r.start + r.length) numbers h.within ∙ omega arith

  own_at : (i : ℕ) → i < r.length → get_or (own_numbers numbers r) i 0 ≡ get_or numbers (r.start + i) 0
  own_at i l = get_or-drop r.start (take (r.start + r.length) numbers) i 0 ∙ get_or-take (r.start + r.length) numbers (r.start + i) 0 (omega arith)

  -- a number of the group is no less than its least, and the difference fits its width
  pub value_low : (i : ℕ) → i < r.length → r.least ≤ get_or numbers (r.start + i) 0
  value_low i l = omega (arith, h.least, least-lower (own_numbers numbers r) i (omega (arith, length-own)), own_at i l)

  pub value-fits : (i : ℕ) → i < r.length → get_or numbers (r.start + i) 0 - r.least < 2 ^ r.width
  value-fits i l = rw (h.least, h.width, ← own_at i l) (fits_width (own_numbers numbers r) i (omega (arith, length-own)))

  pub values_listed : map (λ number. number - r.least) (own_numbers numbers r) ≡ listed r.length (λ i. get_or numbers (r.start + i) 0 - r.least)
  values_listed =
      sym (listed-map (λ (number : ℕ). number - r.least) (own_numbers numbers r) 0 length-own)
      ∙ listed-ext r.length _ _ (λ i l. ap (λ (number : ℕ). number - r.least) (own_at i l))

  -- none is greater than the list's greatest
  pub greatest-own : greatest (own_numbers numbers r) ≤ greatest numbers
  greatest-own =
      greatest-each (greatest numbers) (own_numbers numbers r)
      (λ i l. let m : i < r.length = omega (arith, length-own) in omega (arith, own_at i m, greatest-upper numbers (r.start + i) (omega (arith, h.within))))

  pub least-upto : r.least ≤ greatest numbers
  least-upto = omega (arith, h.least, least-greatest (own_numbers numbers r), greatest-own)

  pub width-upto : (w : ℕ) → greatest numbers < 2 ^ w → r.width ≤ w
  unfolding width_of
  width-upto w l = rw h.width (bits-le w (greatest (own_numbers numbers r) - least (own_numbers numbers r)) (omega (arith, greatest-own)))

module _ (numbers : List ℕ) where
  -- what all groups from a place on hold begins with the first group's numbers
  first-own : (start : ℕ) (group : List ℕ) (groups : List (List ℕ)) → group ++ all_of groups ≡ drop start numbers
      → (slice start (start + length group) numbers ≡ group) × (all_of groups ≡ drop (start + length group) numbers) × (start + length group ≤ start + length (drop start numbers))
  first-own start group groups e =
      let n : start + length group - start ≡ length group = omega arith in (
        sym (take-of-drop start (start + length group) numbers) ∙ ap₂ (λ (m : ℕ) (l : List ℕ). take m l) n (sym e) ∙ take_at group (all_of groups) (length group) refl,
        sym (drop_at group (all_of groups) (length group) refl) ∙ ap (drop (length group)) e ∙ drop-drop (length group) start numbers,
        omega (arith, ap length e, length-append group (all_of groups)),
      )

  -- the records of groups give the groups back
  pub own_back : (start : ℕ) (groups : List (List ℕ)) → all_of groups ≡ drop start numbers → own_groups numbers (records_from start groups) ≡ groups
  unfolding flat_map records_from map
  own_back start [] e = refl
  own_back start (group ∷ groups) e =
      let f = first-own start group groups e in
      ap₂ (λ (g : List ℕ) (gs : List (List ℕ)). g ∷ gs) f.0 (own_back (start + length group) groups f.1)

  pub record_of : (start : ℕ) (groups : List (List ℕ)) → all_of groups ≡ drop start numbers → NoneEmpty groups → start ≤ length numbers
      → (d : Group) (j : ℕ) → j < length groups → RecordOf numbers (get_or (records_from start groups) j d)
  unfolding flat_map records_from
  record_of start [] e h l d j m = absurd (omega arith)
  record_of start (group ∷ groups) e h l d zero m =
      let f = first-own start group groups e in
      record { some = h.0; within = omega (arith, f.2, length-drop start numbers); least = ap least (sym f.0); width = ap width_of (sym f.0) }
  record_of start (group ∷ groups) e h l d (suc j) m =
      let f = first-own start group groups e in
      record_of (start + length group) groups f.1 h.1 (omega (arith, f.2, length-drop start numbers)) d j (omega arith)

-- ---- what is stored is read back

-- group k of those in the octets, and the first n
abbrev pub group_in : List ℕ → ℕ → Group
group_in octets k = record {
  start = number_at octets (k * numbers_per_group * 32) 32;
  length = number_at octets ((k * numbers_per_group + 1) * 32) 32;
  least = number_at octets ((k * numbers_per_group + 2) * 32) 32;
  width = number_at octets ((k * numbers_per_group + 3) * 32) 32;
}

abbrev pub groups_in : List ℕ → ℕ → List Group
groups_in octets n = listed n (group_in octets)

-- a lent list that holds the records of as many groups of numbers that packing takes
pub record Sound (numbers octets : List ℕ) (count : ℕ) : Type 0 where
  pub some : 0 < count
  pub few : count ≤ limit
  pub there : count * group_size ≤ length octets
  pub short : length numbers ≤ limit
  pub small : greatest numbers ≤ 2147483647
  pub each : (k : ℕ) → k < count → RecordOf numbers (group_in octets k)

module _ (numbers octets : List ℕ) (n : ℕ) where
  pub own-listed : own_groups numbers (groups_in octets n) ≡ listed n (λ k. own_numbers numbers (group_in octets k))
  own-listed = map-listed (own_numbers numbers) n (group_in octets)

  pub length-groups : length (own_groups numbers (groups_in octets n)) ≡ n
  length-groups = ap length own-listed ∙ length-listed n (λ k. own_numbers numbers (group_in octets k))

  pub own-group : (k : ℕ) → k < n → get_or (own_groups numbers (groups_in octets n)) k [] ≡ own_numbers numbers (group_in octets k)
  own-group k l = ap (λ (gs : List (List ℕ)). get_or gs k []) own-listed ∙ get_or-listed n (λ j. own_numbers numbers (group_in octets j)) [] k l

  -- a number of each record is one of its group
  pub own-map : (number : Group → ℕ) (of : List ℕ → ℕ) → ((r : Group) → RecordOf numbers r → number r ≡ of (own_numbers numbers r))
      → ((k : ℕ) → k < n → RecordOf numbers (group_in octets k)) → map number (groups_in octets n) ≡ map of (own_groups numbers (groups_in octets n))
  own-map number of same each =
      map-listed number n (group_in octets)
      ∙ listed-ext n _ _ (λ k l. same _ (each k l))
      ∙ sym (ap (map of) own-listed ∙ map-listed of n (λ k. own_numbers numbers (group_in octets k)))

  pub own-map-at : (number : Group → ℕ) (of : List ℕ → ℕ) → ((r : Group) → RecordOf numbers r → number r ≡ of (own_numbers numbers r))
      → ((k : ℕ) → k < n → RecordOf numbers (group_in octets k)) → (k : ℕ) → k < n → get_or (map of (own_groups numbers (groups_in octets n))) k 0 ≡ number (group_in octets k)
  own-map-at number of same each k l =
      ap (λ (xs : List ℕ). get_or xs k 0) (sym (own-map number of same each) ∙ map-listed number n (group_in octets)) ∙ get_or-listed n (λ j. number (group_in octets j)) 0 k l

pub four-each : (x : ℕ) → length (big_endian number_size x) ≡ number_size
four-each x = length-listed number_size (λ i. x / 256 ^ (number_size - suc i) % 256)

pub group-size : (g : Group) → length (group_octets g) ≡ group_size
group-size g = length-flat (big_endian number_size) number_size four-each (group_numbers g)

pub number-read-back : (rest xs : List ℕ) (j : ℕ) → j < length xs → get_or xs j 0 < 2 ^ 32 → number_at (in_fours xs ++ rest) (j * 32) 32 ≡ get_or xs j 0
number-read-back rest xs j l h =
    let n : ℕ = get_or xs j 0 in
    let octet : ℕ → ℕ = λ i. n / 256 ^ (number_size - suc i) % 256 in
    let p : j * 32 ≡ j * number_size * 8 = omega arith in
    rw p (number-back (in_fours xs ++ rest) (j * number_size) number_size n (λ i m. flat-at (big_endian number_size) number_size four-each xs rest 0 j i l m ∙ get_or-listed number_size octet 0 i m) h)

-- groups in octets are their numbers in octets
groups-in-fours : (groups : List Group) → flat_map group_octets groups ≡ in_fours (flat_map group_numbers groups)
unfolding flat_map
groups-in-fours [] = refl
groups-in-fours (g ∷ groups) =
    ap (λ (l : List ℕ). group_octets g ++ l) (groups-in-fours groups) ∙ sym (flat_append (big_endian number_size) (group_numbers g) (flat_map group_numbers groups))

-- a group whose numbers four octets hold
pub record Fits (g : Group) : Type 0 where
  pub start : g.start < 2 ^ 32
  pub length : g.length < 2 ^ 32
  pub least : g.least < 2 ^ 32
  pub width : g.width < 2 ^ 32

module _ (groups : List Group) (d : Group) (fits : (k : ℕ) → k < length groups → Fits (get_or groups k d)) (rest : List ℕ) where
  abbrev four : List ℕ
  four = flat_map group_numbers groups

  -- number i of group k, among those of all and in the octets
  four-at : (k i : ℕ) → k < length groups → i < numbers_per_group → get_or (group_numbers (get_or groups k d)) i 0 < 2 ^ 32
      → number_at (flat_map group_octets groups ++ rest) ((k * numbers_per_group + i) * 32) 32 ≡ get_or (group_numbers (get_or groups k d)) i 0
  four-at k i l m h =
      let e = rw append-nil at (flat-at group_numbers numbers_per_group (λ g. refl) groups [] d k i l m) in
      let long = length-flat group_numbers numbers_per_group (λ g. refl) groups in
      rw (groups-in-fours groups, ← e) (number-read-back rest four (k * numbers_per_group + i) (omega arith) (rw e h))

  group-read-back : (k : ℕ) → k < length groups → group_in (flat_map group_octets groups ++ rest) k ≡ get_or groups k d
  group-read-back k l =
      let f = fits k l in
      rw (rw add-zero at (four-at k 0 l (omega arith) f.start), four-at k 1 l (omega arith) f.length, four-at k 2 l (omega arith) f.least, four-at k 3 l (omega arith) f.width)

  pub groups-read-back : groups_in (flat_map group_octets groups ++ rest) (length groups) ≡ groups
  groups-read-back =
      ext_get_or d _ groups (length-listed (length groups) _)
      (λ k l. let m = rw length-listed at l in get_or-listed (length groups) (group_in (flat_map group_octets groups ++ rest)) d k m ∙ group-read-back k m)

-- ---- the lent list that packing leaves

module _ (numbers : List ℕ) (groups : List (List ℕ)) (all : all_of groups ≡ numbers) (none : NoneEmpty groups) (short : length numbers ≤ limit) (small : greatest numbers ≤ 2147483647) (rest : List ℕ) where
  abbrev records : List Group
  records = records_from 0 groups

  recorded : (d : Group) (k : ℕ) → k < length records → RecordOf numbers (get_or records k d)
  recorded d k l = record_of numbers 0 groups all none (omega arith) d k (omega (arith, length-records 0 groups))

  fitted : (d : Group) (k : ℕ) → k < length records → Fits (get_or records k d)
  fitted d k l =
      let h = recorded d k l in
      record {
        start = omega (arith, h.within);
        length = omega (arith, h.within);
        least = omega (arith, least-upto h);
        width = omega (arith, width-upto h 32 (omega arith));
      }

  pub records-back : groups_in (flat_map group_octets records ++ rest) (length records) ≡ records
  records-back = groups-read-back records (group_in [] 0) (fitted (group_in [] 0)) rest

  pub groups-back : own_groups numbers (groups_in (flat_map group_octets records ++ rest) (length records)) ≡ groups
  groups-back = ap (own_groups numbers) records-back ∙ own_back numbers 0 groups all

  pub list-sound : 0 < length groups → Sound numbers (flat_map group_octets records ++ rest) (length records)
  list-sound some = record {
    some = omega (arith, length-records 0 groups);
    few = omega (arith, length-records 0 groups, few-groups groups none, ap length all);
    there = omega (arith, length-append (flat_map group_octets records) rest, length-flat group_octets group_size group-size records);
    short = short;
    small = small;
    each = λ k l. rw (group-read-back records (group_in [] 0) (fitted (group_in [] 0)) rest k l) (recorded (group_in [] 0) k l);
  }
