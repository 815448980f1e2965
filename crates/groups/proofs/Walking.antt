-- The walk over all groups: where it starts, and a step; and the group that holds a place, found on its way. Assumes nothing.
use mathlib.Core.Path.{◌≡◌, refl, ap₂, ◌∙◌}
use mathlib.Core.Bool.{Bool, true, false, cond}
use Prim.Native.Nat.{ℕ, ◌+◌, ◌*◌, ◌≤◌, ◌<◌}
use native.Mathlib.Numerals.{add-one}
use native.Mathlib.Omega.{arith}
use lib.Dec.{leb}
use Rattle.format.specs.Lists.{total}
use Rattle.format.specs.Unpacking.{Codes, group_width, group_length, points_before, bits_before}
use Rattle.format.specs.declared.Template.{Template}
use Rattle.laws.specs.Bits.{product}
use Rattle.laws.specs.Lists.{total-next}
use Rattle.laws.specs.Points.{holder_of}
use Rattle.groups.specs.declared.Walk.{Walk}
use Rattle.groups.specs.Walk.{Walking, walk_at, holder_walk, at_first, Further}

module _ {t : Template} {codes : Codes} where
  pub walking_start : Walking t codes at_first
  unfolding points_before bits_before total
  walking_start = record { some = omega arith; count = refl; size = refl; count_low = omega arith; size_low = omega arith }

  -- past a group that is not too wide and not too long
  pub walking-step : {walk next : Walk} {width length : ℕ} → Walking t codes walk → walk.group < t.groups
      → width ≡ group_width t codes walk.group → length ≡ group_length t codes walk.group → width ≤ 31 → length ≤ 4294967295
      → Further walk width length next → Walking t codes next
  unfolding points_before bits_before
  walking-step {walk} {next} {width} {length} w l ew el mw ml e =
      let area : length * width ≤ 4294967295 * 31 = product length width 4294967295 31 ml mw in
      record {
        some = omega arith;
        count = rw (e.group, total-next) (e.points ∙ ap₂ (λ (x y : ℕ). x + y) w.count el);
        size = rw (e.group, total-next) (e.bits ∙ ap₂ (λ (x y : ℕ). x + y) w.size (rw (el, ew)));
        count_low = omega (arith, w.count_low);
        size_low = omega (arith, w.size_low);
      }

-- ---- the group that holds a place

module _ (t : Template) (codes : Codes) (place : ℕ) where
  pub holder-start : at_first ≡ holder_walk t codes place 0
  unfolding holder_of points_before bits_before total
  holder-start = refl

  pub holder-step : {walk next holder nearer : Walk} {width length : ℕ} → Walking t codes walk → holder ≡ holder_walk t codes place walk.group
      → nearer ≡ cond (leb walk.points place) walk holder → Further walk width length next → nearer ≡ holder_walk t codes place next.group
  unfolding holder_of
  holder-step {walk} w eh en e =
      en ∙ rw (w.count, w.size, eh, e.group, add-one) (by-test (leb (points_before t codes walk.group) place) walk.group (holder_of t codes place walk.group))
    where
      by-test : (b : Bool) (g h : ℕ) → cond b (walk_at t codes g) (walk_at t codes h) ≡ walk_at t codes (cond b g h)
      by-test true g h = refl
      by-test false g h = refl
