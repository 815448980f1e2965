-- A lent list that is filled group after group, whatever a group is stored as. Assumes nothing.
use mathlib.Core.Path.{◌≡◌, refl, sym, ap, ap₂, ◌∙◌}
use mathlib.Core.List.{List, [], ◌∷◌, ◌++◌, flat_map, append-nil}
use Prim.Native.Nat.{ℕ, ◌+◌, ◌*◌, ◌≤◌, ◌<◌}
use native.Mathlib.Nat.{mul-le-mul_right, div-mul-le_self, le_trans}
use native.Mathlib.Numerals.{add-one}
use native.Mathlib.Omega.{arith}
use lib.ListN.{length, take, drop, length-drop, drop_of_length-le}
use lib.Seq.{slice, sets, length-sets, length-slice, length-take-le, take_all, take-add, drop-drop}
use Rattle.format.specs.Lists.{whole_ones, ◌over◌}
use Rattle.format.specs.Refusals.{room_refusals, left}
use Rattle.format.specs.Grouping.{width_of, groups_of, records_from, groups_lent}
use Rattle.format.specs.declared.Group.{Group}
use Rattle.format.specs.declared.Refusal.TheVariants.{Room}
use Rattle.laws.specs.First.{decides, clears, tests}
use Rattle.laws.specs.Stores.{flat-over}
use Rattle.laws.specs.Groups.{groups-some, length-records}
use Rattle.grouping.specs.Rule.{NextGroup}
use Rattle.std.specs.declared.result.Result.TheVariants.{Ok, Err}

module _ (list : List ℕ) (k added : ℕ) where
  -- the records of the groups from a place on
  abbrev pub records : ℕ → List Group
  records start = records_from start (groups_of width_of added k (drop start list))

  next-record : {start : ℕ} {g : Group} → NextGroup k added list start g → records start ≡ g ∷ records (start + g.length)
  unfolding records_from
  next-record {start} {g} n =
      let m : length (slice start (start + g.length) list) ≡ g.length = length-slice start (start + g.length) list n.within ∙ omega arith in
      rw (n.first, m, ← n.least, ← n.width) (ap (λ (s : ℕ). record { start = s; length = g.length; least = g.least; width = g.width } ∷ records (start + g.length)) (sym n.start))

  module _ (stored : Group → List ℕ) (size : ℕ) where
    -- m groups are stored, and the numbers before `start` are theirs
    pub record GroupsStored (lent now : List ℕ) (start m : ℕ) : Type 0 where
      pub within : start ≤ length list
      pub few : m ≤ start
      pub some : m ≤ length (records 0)
      pub room : m ≤ whole_ones size lent
      pub left : drop m (records 0) ≡ records start
      pub front : now ≡ flat_map stored (take m (records 0)) over lent
      pub long : length now ≡ length lent

    pub stored-none : (lent : List ℕ) → GroupsStored lent lent 0 0
    unfolding flat_map
    stored-none lent = record {
      within = omega arith;
      few = omega arith;
      some = omega arith;
      room = omega arith;
      left = refl;
      front = refl;
      long = refl;
    }

    module _ {lent now : List ℕ} {start m : ℕ} (s : GroupsStored lent now start m) where
      pub stored_more : ((g : Group) → length (stored g) ≡ size) → {g : Group} → NextGroup k added list start g → {room : ℕ} → room ≡ whole_ones size lent → m < room
          → {next : List ℕ} → next ≡ sets now (m * size) (stored g) → GroupsStored lent next (start + g.length) (m + 1)
      unfolding flat_map
      stored_more each {g} n {room} er l e =
          let h : m < whole_ones size lent = omega (arith, er, l) in
          let two = s.left ∙ next-record n in
          let one : take (m + 1) (records 0) ≡ take m (records 0) ++ (g ∷ []) = take-add m 1 (records 0) ∙ ap (λ (l : List Group). take m (records 0) ++ take 1 l) two in
          let t : length (take m (records 0)) ≡ m = length-take-le m (records 0) s.some in
          let fits : (length (take m (records 0)) + 1) * size ≤ length lent = rw t (le_trans (mul-le-mul_right size (rw (← add-one) at h)) (div-mul-le_self (length lent) size)) in
          let f : sets (flat_map stored (take m (records 0)) over lent) (m * size) (stored g) ≡ flat_map stored (take (m + 1) (records 0)) over lent = rw (append-nil, t, ← one) at (flat-over stored size each lent (take m (records 0)) (g ∷ []) fits) in
          record {
            within = n.within;
            few = omega (arith, s.few, n.some);
            some = omega (arith, length-drop m (records 0), ap length two);
            room = omega arith;
            left = sym (drop-drop 1 m (records 0)) ∙ ap (drop 1) two;
            front = e ∙ ap (λ (l : List ℕ). sets l (m * size) (stored g)) s.front ∙ f;
            long = ap length e ∙ length-sets now (m * size) (stored g) ∙ s.long;
          }

      module _ {count : ℕ} (ec : count ≡ length list) where
        -- no slot is left for the next group
        pub stored-full : {room : ℕ} → room ≡ whole_ones size lent → room ≤ m → start < count → left (Err Room) now ≡ groups_lent stored size (records 0) lent
        stored-full er h l =
            let e : m ≡ whole_ones size lent = omega (arith, s.room, er, h) in
            let d = ap length s.left ∙ length-records start (groups_of width_of added k (drop start list)) in
            let more : m < length (records 0) = omega (arith, length-drop m (records 0), groups-some width_of added k (drop start list) (omega (arith, length-drop start list))) in
            ap₂ left (decides Err Room (room_refusals size lent (length (records 0))) _ ((λ t. refl), λ t. omega (arith, tests)))
            (s.front ∙ ap (λ (n : ℕ). flat_map stored (take n (records 0)) over lent) e)

        -- all are stored
        pub stored-all : count ≤ start → left (Ok m) now ≡ groups_lent stored size (records 0) lent
        unfolding groups_of records_from
        stored-all h =
            let d : drop start list ≡ [] = drop_of_length-le list {i = start} (omega arith) in
            let none : drop m (records 0) ≡ [] = s.left ∙ ap (λ (l : List ℕ). records_from start (groups_of width_of added k l)) d in
            let e : m ≡ length (records 0) = omega (arith, s.some, length-drop m (records 0), ap length none) in
            ap₂ left (ap Ok e ∙ clears Err (room_refusals size lent (length (records 0))) _ (omega (arith, tests, s.room), tt))
            (s.front ∙ ap (λ (l : List Group). flat_map stored l over lent) (take_all m (records 0) (omega arith) ∙ sym (take_all (whole_ones size lent) (records 0) (omega (arith, s.room)))))
