-- A list of groups that is filled from what grouping leaves holds document 01's groups. Assumes nothing.
use mathlib.Core.Path.{◌≡◌, refl, sym, ap, ap₂, ◌∙◌}
use mathlib.Core.List.{List, [], ◌∷◌, ◌++◌, flat_map}
use Prim.Native.Nat.{ℕ, zero, suc, ◌+◌, ◌*◌, ◌≤◌, ◌<◌}
use native.Mathlib.Nat.{add-zero}
use native.Mathlib.Numerals.{add-one}
use native.Mathlib.Omega.{arith}
use borrow.Author.Tests.{ltb-false}
use lib.ListN.{length, get_or, take, drop, length-take}
use lib.Seq.{take-suc, take_all}
use Rattle.std.proofs.lemmas.List.{take_min}
use Rattle.format.specs.Lists.{listed, whole_ones, ◌over◌}
use Rattle.format.specs.Layout.{numbers_per_group, group_numbers}
use Rattle.format.specs.Refusals.{room_refusals, left, Left}
use Rattle.format.specs.Grouping.{groups01, records_from, number_refusals, group_numbers_of}
use Rattle.format.specs.declared.Refusal.{Refusal}
use Rattle.format.specs.declared.Group.{Group}
use Rattle.laws.specs.First.{passed}
use Rattle.laws.specs.Lists.{listed_more, length_over}
use Rattle.laws.specs.Stores.{length-flat, flat-at}
use Rattle.group_list.specs.Listing.{group_among, no_group, fitting_of, filling, filled, groups_listed}
use Rattle.std.specs.declared.result.Result.{Result}
use Rattle.std.specs.declared.result.Result.TheVariants.{Ok, Err}

-- ---- groups whose numbers stand end to end

module _ (groups : List Group) (rest : List ℕ) where
  abbrev numbers : List ℕ
  numbers = flat_map group_numbers groups ++ rest

  among : (k : ℕ) → k < length groups → group_among numbers k ≡ get_or groups k no_group
  among k l =
      let at : (i : ℕ) → i < numbers_per_group → get_or numbers (k * numbers_per_group + i) 0 ≡ get_or (group_numbers (get_or groups k no_group)) i 0 =
      λ i m. flat-at group_numbers numbers_per_group (λ g. refl) groups rest no_group k i l m in
      let e₀ : get_or numbers (k * numbers_per_group) 0 ≡ (get_or groups k no_group).start = rw add-zero at (at 0 (omega arith)) in
      λ i. record { start = e₀ i; length = at 1 (omega arith) i; least = at 2 (omega arith) i; width = at 3 (omega arith) i }

  first-among : (n : ℕ) → n ≤ length groups → listed n (group_among numbers) ≡ take n groups
  unfolding listed
  first-among zero l = refl
  first-among (suc n) l =
      ap (λ (m : ℕ). listed m (group_among numbers)) (sym (add-one n)) ∙ listed_more n (group_among numbers)
      ∙ ap₂ (λ (gs : List Group) (g : Group). gs ++ (g ∷ [])) (first-among n (omega arith)) (among n l) ∙ sym (take-suc groups n no_group l)

-- as many of them as a list has room for
over-filled : (groups : List Group) (lent : List ℕ) (list : List Group) → length groups ≤ whole_ones numbers_per_group lent
    → filled (flat_map group_numbers groups over lent) (length groups) list ≡ filling (length (take (length list) groups)) (take (length list) groups over list)
over-filled groups lent list fits =
    let flat : List ℕ = flat_map group_numbers groups in
    let some : List Group = take (length list) groups in
    let whole = length_over flat lent (omega (arith, fits, length-flat group_numbers numbers_per_group (λ g. refl) groups)) in
    let count = length-take (length list) groups in
    let n : fitting_of (length groups) (length list) (length (flat over lent)) ≡ length some = omega (arith, fits, whole, count) in
    ap (λ (m : ℕ). filling m (listed m (group_among (flat over lent)) over list)) n
    ∙ ap (λ (gs : List Group). filling (length some) (gs over list)) (first-among groups (drop (length flat) lent) (length some) (omega (arith, count)) ∙ rw count (take_min (length list) groups))

-- ---- from `groups_of`'s success

no-refusal : {n : ℕ} {r : Refusal} → Ok n ≡ Err r → ⊥
no-refusal e = cc

pub grouped-filled : (k : ℕ) (numbers lent slots : List ℕ) (count : ℕ) (list : List Group) → left (Ok count) slots ≡ group_numbers_of k numbers lent
    → filled slots count list ≡ groups_listed k numbers list
unfolding group_numbers_of
grouped-filled k numbers lent slots count list e =
    let groups : List Group = records_from 0 (groups01 k numbers) in
    let taken = (passed (λ r. left (Err r) lent) (number_refusals k numbers) _ e (λ r d. no-refusal (ap (λ (x : Left (Result ℕ Refusal)). x.answer) d))).1 in
    let roomy = passed Err (room_refusals numbers_per_group lent (length groups)) _ (ap (λ (x : Left (Result ℕ Refusal)). x.answer) taken) (λ r. no-refusal) in
    let fits : length groups ≤ whole_ones numbers_per_group lent = ltb-false (whole_ones numbers_per_group lent) (length groups) roomy.0.0 in
    let n : count ≡ length groups = cc roomy.1 in
    rw (n, ap (λ (x : Left (Result ℕ Refusal)). x.buffer) taken, take_all (whole_ones numbers_per_group lent) groups fits) (over-filled groups lent list fits)
