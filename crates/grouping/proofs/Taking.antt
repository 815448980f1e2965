-- A group that grows number by number. Assumes nothing.
use mathlib.Core.Path.{◌≡◌, refl, ap, ◌∙◌}
use mathlib.Core.Bool.{Bool, true, false}
use mathlib.Core.List.{List, [], ◌∷◌, ◌++◌}
use Prim.Native.Nat.{ℕ, suc, ◌+◌, ◌-◌, ◌*◌, ◌≤◌, ◌<◌}
use native.Mathlib.Numerals.{add-one}
use native.Mathlib.Omega.{arith}
use borrow.Author.Tests.{le-ltb, lt-ltb, ltb-true, ltb-false}
use lib.Dec.{ltb}
use lib.ListN.{length, get_or, take, drop, drop_of_length-le}
use lib.Seq.{slice, drop-cons, length-slice}
use Rattle.format.specs.Lists.{greatest, least}
use Rattle.format.specs.Grouping.{bits, width_of, cost, ends_before, groups_from, groups_of}
use Rattle.format.specs.declared.Group.{Group}
use Rattle.numbers.specs.Windows.{window_of, widened_by}
use Rattle.numbers.specs.declared.Window.{Window}
use Rattle.numbers.proofs.Windows.{window-ordered, window-width}
use Rattle.grouping.specs.Rule.{Known, NextGroup}
use Rattle.grouping.proofs.Slices.{slice_snoc, slice-none}
use Rattle.grouping.proofs.Levels.{window-next, level-later}

-- nothing is known ahead
pub known-none : (list : List ℕ) (k end : ℕ) → end ≤ length list → Known list k end end
unfolding greatest least
known-none list k end l = record { flat = rw (slice-none list end end (omega arith)); within = l; near = omega arith }

-- one number less is
pub known-later : {list : List ℕ} {k end level : ℕ} → Known list k end level → Known list k (end + 1) level
known-later {list} {k} {end} {level} h = record { flat = level-later list end level h.within h.flat; within = h.within; near = omega (arith, h.near) }

-- the group from `start` to `end` is open: its window and width, and what the rule makes of what is left
pub record Open (list : List ℕ) (k added start : ℕ) (w : Window) (wide end : ℕ) : Type 0 where
  pub some : start < end
  pub within : end ≤ length list
  pub window : w ≡ window_of (slice start end list)
  pub width : wide ≡ width_of (slice start end list)
  pub narrow : wide ≤ 32
  pub left : groups_of width_of added k (drop start list) ≡ groups_from width_of added k (slice start end list) (drop end list)

-- to cost less than what is gained is to cost less together with what is kept
by_gain : (cost keep extend : ℕ) (b : Bool) → ltb cost (extend - keep) ≡ b → ltb (keep + cost) extend ≡ b
by_gain cost keep extend true h = lt-ltb (keep + cost) extend (omega (arith, ltb-true cost (extend - keep) h))
by_gain cost keep extend false h = le-ltb (keep + cost) extend (omega (arith, ltb-false cost (extend - keep) h))

module _ (list : List ℕ) (k added start : ℕ) where
  -- "A group starts with one number."
  pub open-start : start < length list → {x : ℕ} → x ≡ get_or list start 0 → {w : Window} → w ≡ window_of (x ∷ []) → {wide : ℕ} → wide ≡ bits (w.greatest - w.least) → wide ≤ 32
      → Open list k added start w wide (start + 1)
  unfolding groups_of greatest least
  open-start l ex ex' eg narrow =
      let ew = rw ex at ex' in
      let one : slice start (start + 1) list ≡ get_or list start 0 ∷ [] = rw (slice_snoc list start start 0 (omega arith) l, slice-none list start start (omega arith)) in
      record {
        some = omega arith;
        within = omega arith;
        window = rw one ew;
        width = rw one (window-width (get_or list start 0 ∷ []) ew eg);
        narrow = narrow;
        left = rw (one, add-one, drop-cons list start 0 l);
      }

  -- the group that is answered
  closed : {w : Window} {wide end : ℕ} → Open list k added start w wide end
      → groups_of width_of added k (drop start list) ≡ slice start end list ∷ groups_of width_of added k (drop end list)
      → {g : Group} → g ≡ record { start = start; length = end - start; least = w.least; width = wide } → NextGroup k added list start g
  closed {end = end} s h e =
      let n : start + (end - start) ≡ end = omega (arith, s.some) in
      rw e
      (record {
        first = rw n h;
        some = omega (arith, s.some);
        within = omega (arith, s.some, s.within);
        start = refl;
        least = rw n (ap (λ (v : Window). v.least) s.window);
        width = rw n s.width;
      })

  -- a turn of the loop: the number at `end` is looked at. What each fact speaks of is known from those before it
  module _ {w : Window} {wide end : ℕ} (s : Open list k added start w wide end) {count : ℕ} (n : count ≡ length list) (t : end < count) where
    abbrev next : ℕ
    next = get_or list end 0

    l : end < length list
    l = omega arith

    wider : {x : ℕ} → x ≡ next → {w' : Window} → w' ≡ widened_by w x → w' ≡ window_of (slice start (end + 1) list)
    wider ex ew = window-next list start end s.some l s.window ex ew

    pub wider-ordered : {x : ℕ} → x ≡ next → {w' : Window} → w' ≡ widened_by w x → w'.least ≤ w'.greatest
    wider-ordered ex ew = window-ordered (slice start (end + 1) list) (wider ex ew)

    module _ {x : ℕ} (ex : x ≡ next) {w' : Window} (ew : w' ≡ widened_by w x) {grown : ℕ} (eg : grown ≡ bits (w'.greatest - w'.least)) (narrow : grown ≤ 32)
        {gain : ℕ} (e : gain ≡ (end - start + 1) * grown - ((end - start) * wide + added)) where
      longer : slice start (end + 1) list ≡ slice start end list ++ (next ∷ [])
      longer = slice_snoc list start end 0 (omega (arith, s.some)) l

      wider-width : grown ≡ width_of (slice start (end + 1) list)
      wider-width = window-width (slice start (end + 1) list) (wider ex ew) eg

      -- the comparison, as the rule has it
      rule : {b : Bool} → ltb (cost width_of (take k (drop end list))) gain ≡ b → ends_before width_of added k (slice start end list) next (drop (suc end) list) ≡ b
      unfolding ends_before
      rule {b} h =
          let n : length (slice start end list) ≡ end - start = length-slice start end list s.within in
          let m : length (slice start (end + 1) list) ≡ end - start + 1 = length-slice start (end + 1) list (omega (arith, l)) ∙ omega (arith, s.some) in
          let c₁ : cost width_of (slice start end list) ≡ (end - start) * wide = rw (n, s.width) in
          let c₂ : cost width_of (slice start (end + 1) list) ≡ (end - start + 1) * grown = rw (m, wider-width) in
          let ahead = cost width_of (take k (drop end list)) in
          let a : (end - start) * wide + added + ahead ≡ cost width_of (slice start end list) + (ahead + added) = omega (arith, c₁) in
          rw (← longer, ← drop-cons list end 0 l, ← a, c₂) (by_gain ahead ((end - start) * wide + added) ((end - start + 1) * grown) b (rw e at h))

      -- "the group ends before it"
      pub ended : ltb (cost width_of (take k (drop end list))) gain ≡ true
          → {g : Group} → g ≡ record { start = start; length = end - start; least = w.least; width = wide } → NextGroup k added list start g
      unfolding groups_from groups_of
      ended h eg = closed s (s.left ∙ rw (drop-cons list end 0 l, rule h)) eg

      -- "otherwise it is taken in"
      pub taken : ltb (cost width_of (take k (drop end list))) gain ≡ false → Open list k added start w' grown (end + 1)
      unfolding groups_from
      taken h = record {
        some = omega (arith, s.some);
        within = omega (arith, l);
        window = wider ex ew;
        width = wider-width;
        narrow = narrow;
        left = s.left ∙ rw (drop-cons list end 0 l, rule h, longer, add-one);
      }

  -- at the end of the list there is no other group
  pub last : {w : Window} {wide end : ℕ} → Open list k added start w wide end → {count : ℕ} → count ≡ length list → count ≤ end
      → {g : Group} → g ≡ record { start = start; length = count - start; least = w.least; width = wide } → NextGroup k added list start g
  unfolding groups_from groups_of
  last {end = end} s {count} n h e =
      let d : count ≡ end = omega (arith, s.within) in
      closed s (s.left ∙ rw (drop_of_length-le list {i = end} (omega arith))) (rw d at e)
