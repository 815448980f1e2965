-- The walk over all groups decides 8, and 7 for the values, and finds the group that holds a place. Assumes nothing.
use mathlib.Core.Path.{◌≡◌, refl, ap, ◌∙◌}
use mathlib.Core.Bool.{Bool, true, false, cond, and-false, or-true}
use Prim.Native.Nat.{ℕ, suc, ◌+◌, ◌≤◌, ◌<◌}
use native.Mathlib.Omega.{arith}
use lib.Dec.{leb}
use lib.ListN.{length, get_or, drop}
use borrow.Author.Tests.{lt-ltb, le-ltb}
use Rattle.format.specs.Lists.{listed, any_of}
use Rattle.format.specs.Refusals.{first}
use Rattle.format.specs.Unpacking.{Codes, group_width, group_length, bits_before, wrong_group, places_of, group_refusals}
use Rattle.format.specs.declared.Template.{Template}
use Rattle.format.specs.declared.Places.{Places}
use Rattle.format.specs.declared.Refusal.TheVariants.{GroupSize, Short}
use Rattle.laws.specs.First.{decides, clears, tests}
use Rattle.laws.specs.Lists.{length-listed, get_or-listed, any_here, any-later, any-end}
use Rattle.groups.specs.declared.Walk.{Walk}
use Rattle.groups.specs.Walk.{Walking, holder_walk, at_first, Further}
use Rattle.groups.proofs.Walking.{walking_start, walking-step, holder-start, holder-step}
use Rattle.group_fields.specs.Surveying.{surveyed_by}
use Rattle.std.specs.declared.result.Result.{Result}
use Rattle.std.specs.declared.result.Result.TheVariants.{Ok, Err}
use Rattle.format.specs.declared.Refusal.{Refusal}
use Rattle.group_fields.specs.declared.Surveyed.{Surveyed}

-- ---- which group is wrong

module _ (t : Template) (codes : Codes) (g : ℕ) where
  too_wide : 31 < group_width t codes g → wrong_group t codes g ≡ true
  unfolding wrong_group
  too_wide h = simp (lt-ltb 31 (group_width t codes g) h)

  too_long : g + 1 < t.groups → 4294967295 < group_length t codes g → wrong_group t codes g ≡ true
  unfolding wrong_group
  too_long l h = simp (lt-ltb (suc g) t.groups (omega arith), lt-ltb 4294967295 (group_length t codes g) h, or-true)

  neither : group_width t codes g ≤ 31 → group_length t codes g ≤ 4294967295 → wrong_group t codes g ≡ false
  unfolding wrong_group
  neither h l = simp (le-ltb 31 (group_width t codes g) h, le-ltb 4294967295 (group_length t codes g) l, and-false)

-- whether one of the groups from g on is wrong
abbrev wrong_from : Template → Codes → ℕ → Bool
wrong_from t codes g = any_of (wrong_group t codes) (drop g (listed t.groups (λ k. k)))

-- ---- the walk

-- none of the groups that are walked is wrong: those left decide
pub record Walked (t : Template) (codes : Codes) (place : ℕ) (holder walk : Walk) (g : ℕ) : Type 0 where
  pub at : walk.group ≡ g
  pub walking : Walking t codes walk
  pub right : wrong_from t codes 0 ≡ wrong_from t codes g
  pub holder-is : holder ≡ holder_walk t codes place g

pub walked_start : (t : Template) (codes : Codes) (place : ℕ) → Walked t codes place at_first at_first 0
walked_start t codes place = record { at = refl; walking = walking_start; right = refl; holder-is = holder-start t codes place }

module _ {t : Template} {codes : Codes} {place : ℕ} {holder walk : Walk} {g : ℕ} (w : Walked t codes place holder walk g) where
  abbrev answer : ℕ → ℕ → Result Surveyed Refusal
  answer start octets = surveyed_by (group_refusals start t octets codes) start t codes place

  module _ (l : g < t.groups) where
    here : (b : Bool) → wrong_group t codes g ≡ b → wrong_group t codes (get_or (listed t.groups (λ k. k)) g 0) ≡ b
    here b e = rw (get_or-listed t.groups (λ k. k) 0 g l) e

    among : g < length (listed t.groups (λ (k : ℕ). k))
    among = omega (arith, length-listed t.groups (λ (k : ℕ). k))

    wrong : (start octets : ℕ) → wrong_group t codes g ≡ true → Err GroupSize ≡ answer start octets
    unfolding first
    wrong start octets e = rw (any_here (wrong_group t codes) (listed t.groups (λ k. k)) 0 g among (here true e))

    module _ {width : ℕ} (ew : width ≡ group_width t codes g) where
      pub walked-wide : (start octets : ℕ) → 31 < width → Err GroupSize ≡ answer start octets
      walked-wide start octets m = wrong start octets (too_wide t codes g (omega arith))

      module _ {length : ℕ} (el : length ≡ group_length t codes g) where
        pub walked_more : {next nearer : Walk} → width ≤ 31 → length ≤ 4294967295 → nearer ≡ cond (leb walk.points place) walk holder
            → Further walk width length next → Walked t codes place nearer next (g + 1)
        walked_more mw ml eh e = record {
          at = rw (e.group, w.at);
          walking = walking-step w.walking (omega (arith, w.at)) (rw w.at ew) (rw w.at el) mw ml e;
          right = w.right ∙ any-later (wrong_group t codes) (listed t.groups (λ k. k)) 0 g among (here false (neither t codes g (omega arith) (omega arith)));
          holder-is = rw (← w.at, ← e.group) (holder-step t codes place w.walking (rw w.at w.holder-is) eh e);
        }

    -- the last length is none that is too long
    pub walked-long : (start octets : ℕ) {length : ℕ} → (length ≡ group_length t codes g) × (t.groups ≤ g + 1 → length ≤ 4294967295) → 4294967295 < length → Err GroupSize ≡ answer start octets
    walked-long start octets {length} e m =
        let last : (t.groups ≤ g + 1 → ⊥) = λ z. omega (arith, e.1 z) in
        wrong start octets (too_long t codes g (omega arith) (omega arith))

  module _ (start octets : ℕ) (m : t.groups ≤ g) {p : Places} (ep : p ≡ places_of start t walk.bits) where
    done : g ≡ t.groups
    done = omega (arith, w.at, w.walking.some)

    none : wrong_from t codes 0 ≡ false
    none = w.right ∙ any-end (wrong_group t codes) (listed t.groups (λ k. k)) g (omega (arith, length-listed t.groups (λ (k : ℕ). k)))

    places-are : p ≡ places_of start t (bits_before t codes t.groups)
    places-are = ep ∙ ap (places_of start t) (w.walking.size ∙ rw (w.at, done))

    end_is : p.end.0 ≡ (places_of start t (bits_before t codes t.groups)).end.0
    end_is = ap (λ (q : Places). q.end.0) places-are

    pub walked-short : octets < p.end.0 → Err Short ≡ answer start octets
    walked-short l = decides Err Short (group_refusals start t octets codes) _ (omega (arith, tests, none, end_is))

    pub walked_at : p.end.0 ≤ octets → Ok (record { places = p; points = walk.points; holder = holder }) ≡ answer start octets
    walked_at l =
        rw (places-are, w.walking.count, w.holder-is, w.at, done) (clears Err (group_refusals start t octets codes) _ (omega (arith, tests, none, end_is)))
