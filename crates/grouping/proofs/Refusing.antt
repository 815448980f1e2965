-- "packing: list empty or above 4,194,304 numbers, a number above 2,147,483,647, lookahead outside 1 to 65,535". Assumes nothing.
use mathlib.Core.Path.{◌≡◌, refl, ◌∙◌}
use mathlib.Core.Bool.{false}
use mathlib.Core.List.{List, [], ◌∷◌}
use Prim.Native.Nat.{ℕ, ◌≤◌, ◌<◌}
use native.Mathlib.Omega.{arith}
use lib.Dec.{ltb}
use lib.ListN.{length}
use borrow.Author.Tests.{le-ltb, ltb-false}
use Rattle.format.specs.Lists.{any_of, greatest}
use Rattle.format.specs.Layout.{group_numbers, numbers_per_group}
use Rattle.format.specs.Refusals.{Row, limit, refusal_number, Left, left}
use Rattle.format.specs.Grouping.{width_of, groups_of, records_from, number_refusals, groups_lent, group_numbers_of}
use Rattle.format.specs.declared.Refusal.{Refusal}
use Rattle.laws.specs.First.{Gives, Clear, decides, clears, clear-row, among, tests}
use Rattle.laws.specs.Lists.{either_left}
use Rattle.grouping.specs.Rule.{Limits}
use Rattle.std.specs.declared.result.Result.{Result}
use Rattle.std.specs.declared.result.Result.TheVariants.{Err}

-- a number is above m where the greatest is
pub none_above : (m : ℕ) (xs : List ℕ) → greatest xs ≤ m → any_of (ltb m) xs ≡ false
unfolding greatest any_of
none_above m [] h = refl
none_above m (x ∷ xs) h = rw (le-ltb m x (omega arith)) (none_above m xs (omega arith))

pub greatest-within : (m : ℕ) (xs : List ℕ) → any_of (ltb m) xs ≡ false → greatest xs ≤ m
unfolding greatest any_of
greatest-within m [] h = omega arith
greatest-within m (x ∷ xs) h =
    let e = either_left (ltb m x) (any_of (ltb m) xs) h in
    let later : any_of (ltb m) xs ≡ false = rw e at h in
    omega (arith, ltb-false m x e, greatest-within m xs later)

module _ (k : ℕ) (numbers : List ℕ) where
  abbrev rows : List Row
  rows = number_refusals k numbers

  -- what is not refused is within the limits
  pub greatest-small : Clear rows → greatest numbers ≤ 2147483647
  greatest-small c = greatest-within 2147483647 numbers (clear-row rows c (search among depth 20))

  pub limits : Clear rows → Limits numbers k
  limits c = record { few = omega (arith, tests); ahead = omega (arith, tests); near = omega (arith, tests) }

  -- all five rows give 13
  pub refuses : (0 < length numbers → length numbers ≤ limit → greatest numbers ≤ 2147483647 → 0 < k → k ≤ 65535 → ⊥) → Gives 13 rows
  refuses h = (
    (λ _. refl),
    λ a. (
      (λ _. refl),
      λ b. (
        (λ _. refl),
        λ c. (
          (λ _. refl),
          λ d. (
            (λ _. refl),
            λ e.
                absurd (h (omega (arith, tests)) (omega (arith, tests)) (greatest-within 2147483647 numbers c) (omega (arith, tests)) (omega (arith, tests))),
          ),
        ),
      ),
    ),
  )

  -- and none does within the limits
  pub passes : 0 < length numbers → Limits numbers k → greatest numbers ≤ 2147483647 → Clear rows
  passes some l small = (omega (arith, tests), (omega (arith, tests), (none_above 2147483647 numbers small, (omega (arith, tests), (omega (arith, tests), tt)))))

  -- the groups in lent slots, from what is tested
  pub slots-refused : {r : Refusal} → Gives (refusal_number r) rows → (lent : List ℕ) → left (Err r) lent ≡ group_numbers_of k numbers lent
  unfolding group_numbers_of
  slots-refused {r} g lent = decides (λ q. left (Err q) lent) r rows _ g

  pub slots_filled : Clear rows → (lent : List ℕ) {r : Left (Result ℕ Refusal)} → r ≡ groups_lent group_numbers numbers_per_group (records_from 0 (groups_of width_of 0 k numbers)) lent
      → r ≡ group_numbers_of k numbers lent
  unfolding group_numbers_of
  slots_filled c lent e = e ∙ clears _ rows _ c
