-- Document 01, "Grouping and packing": grouping. Assumes nothing.
use Rattle.std.specs.Prelude.{ℕ, zero, suc, ◌+◌, ◌-◌, ◌*◌, ◌/◌, Bool, cond, eqb, ltb, length, take}
use mathlib.Core.List.{List, [], ◌∷◌, ◌++◌, flat_map}
use Rattle.format.specs.Lists.{greatest, least, any_of, whole_ones, ◌over◌}
use Rattle.format.specs.Layout.{numbers_per_group, group_numbers}
use Rattle.format.specs.Refusals.{Row, ◌gives◌, first, limit, room_refusals, Left, left}
use Rattle.format.specs.declared.Refusal.TheVariants.{Numbers}
use Rattle.format.specs.declared.Group.{Group}
use Rattle.format.specs.declared.Refusal.{Refusal}
use Rattle.std.specs.declared.result.Result.{Result}
use Rattle.std.specs.declared.result.Result.TheVariants.{Ok, Err}

-- "Let bits(x) be the count of binary digits of x, 0 for 0.": the first number bounds the halvings
unfoldable pub digits_in : ℕ → ℕ → ℕ
digits_in zero x = 0
digits_in (suc n) zero = 0
digits_in (suc n) (suc x) = suc (digits_in n (suc x / 2))

unfoldable pub bits : ℕ → ℕ
bits x = digits_in x x

-- "w = bits(max − min)"
unfoldable pub width_of : List ℕ → ℕ
width_of numbers = bits (greatest numbers - least numbers)

-- The rule, over the width of some numbers.
module _ {A : Type 0} (width : List A → ℕ) where
  -- "their count × bits(their max − min)"
  abbrev pub cost : List A → ℕ
  cost numbers = length numbers * width numbers

  -- and over a cost that is added for ending a group
  module _ (added : ℕ) where
    -- "look at the next number: new width w' includes it. The look-ahead takes up to k numbers from that one on [..] If len·w +
    -- that cost is less than (len + 1)·w', the group ends before it; otherwise it is taken in."
    unfoldable pub ends_before : ℕ → List A → A → List A → Bool
    ends_before k group next after =
        ltb (cost group + (cost (take k (next ∷ after)) + added)) (cost (group ++ (next ∷ [])))

    -- the group so far, and the numbers after it
    unfoldable pub groups_from : ℕ → List A → List A → List (List A)
    groups_from k group [] = group ∷ []
    groups_from k group (next ∷ after) =
        cond (ends_before k group next after)
        (group ∷ groups_from k (next ∷ []) after)
        (groups_from k (group ++ (next ∷ [])) after)

    -- "A group starts with one number."
    unfoldable pub groups_of : ℕ → List A → List (List A)
    groups_of k [] = []
    groups_of k (number ∷ after) = groups_from k (number ∷ []) after

-- "four numbers each: start, length, least number, width"
unfoldable pub records_from : ℕ → List (List ℕ) → List Group
records_from start [] = []
records_from start (group ∷ groups) =
    record { start = start; length = length group; least = least group; width = width_of group }
    ∷ records_from (start + length group) groups

-- the groups of a list by document 01's rule, which adds no cost
abbrev pub groups01 : ℕ → List ℕ → List (List ℕ)
groups01 k numbers = groups_of width_of 0 k numbers

-- "packing: list empty or above 4,194,304 numbers, a number above 2,147,483,647, lookahead outside 1 to 65,535"
abbrev pub number_refusals : ℕ → List ℕ → List Row
number_refusals k numbers =
    eqb (length numbers) 0 gives Numbers
    ∷ ltb limit (length numbers) gives Numbers
    ∷ any_of (ltb 2147483647) numbers gives Numbers
    ∷ eqb k 0 gives Numbers
    ∷ ltb 65535 k gives Numbers
    ∷ []

-- "The groups go to a lent list of groups", which holds `size` numbers or octets a group. "10 for the group list leaves the
-- first groups in all lent slots": as many groups are left as it has slots for
abbrev pub groups_lent : (Group → List ℕ) → ℕ → List Group → List ℕ → Left (Result ℕ Refusal)
groups_lent stored size groups lent =
    left (first Err (room_refusals size lent (length groups)) (Ok (length groups)))
    (flat_map stored (take (whole_ones size lent) groups) over lent)

-- the groups of a list, in lent slots of four numbers each
unfoldable pub group_numbers_of : ℕ → List ℕ → List ℕ → Left (Result ℕ Refusal)
group_numbers_of k numbers lent =
    first (λ r. left (Err r) lent) (number_refusals k numbers)
    (groups_lent group_numbers numbers_per_group (records_from 0 (groups01 k numbers)) lent)
