-- The records of groups of numbers that packing takes. Assumes nothing.
use Rattle.std.proofs.Common.{◌≡◌, ℕ, suc, ◌<◌, List, [], ◌∷◌, length, get_or, refl, sym, ap, ap₂, ◌∙◌, arith}
use mathlib.Core.List.{map, flat_map, append-nil}
use Rattle.format.specs.Layout.{group_octets, group_size}
use Rattle.format.specs.declared.Group.{Group}
use Rattle.laws.specs.Lists.{length-listed, get_or-listed}
use Rattle.laws.specs.Stores.{length-flat}
use Rattle.laws.specs.Groups.{group_in, groups_in, own_numbers, own_groups, RecordOf, Sound, Fits, least-upto, width-upto, group-size, groups-read-back}
use Rattle.numbers.specs.Records.{Recorded}

-- a number of each record is one of its group
pub own-numbers : (numbers : List ℕ) (number : Group → ℕ) (of : List ℕ → ℕ) → ((r : Group) → RecordOf numbers r → number r ≡ of (own_numbers numbers r)) → (groups : List Group)
    → ((d : Group) (k : ℕ) → k < length groups → RecordOf numbers (get_or groups k d)) → map number groups ≡ map of (own_groups numbers groups)
own-numbers numbers number of same [] each = refl
own-numbers numbers number of same (r ∷ rs) each =
    ap₂ (λ (n : ℕ) (ns : List ℕ). n ∷ ns) (same r (each r 0 (omega arith))) (own-numbers numbers number of same rs (λ d k l. each d (suc k) (omega arith)))

-- records in octets are such
pub recorded : {numbers octets : List ℕ} {count : ℕ} → Sound numbers octets count → Recorded numbers (groups_in octets count)
recorded {numbers} {octets} {count} s =
    let long = length-listed count (group_in octets) in
    record {
      some = omega (arith, s.some, long);
      few = omega (arith, s.few, long);
      short = s.short;
      small = s.small;
      each = λ d k l. let m = rw long at l in rw (get_or-listed count (group_in octets) d k m) (s.each k m);
    }

module _ {numbers : List ℕ} {groups : List Group} (h : Recorded numbers groups) where
  -- they stand in octets of their own
  abbrev pub octets : List ℕ
  octets = flat_map group_octets groups

  fitted : (d : Group) (k : ℕ) → k < length groups → Fits (get_or groups k d)
  fitted d k l =
      let r = h.each d k l in
      record {
        start = omega (arith, r.within, h.short);
        length = omega (arith, r.within, h.short);
        least = omega (arith, least-upto r, h.small);
        width = omega (arith, width-upto r 32 (omega (arith, h.small)));
      }

  pub stored : groups_in octets (length groups) ≡ groups
  stored = rw append-nil at (groups-read-back groups (group_in [] 0) (fitted (group_in [] 0)) [])

  pub stored-sound : Sound numbers octets (length groups)
  stored-sound = record {
    some = h.some;
    few = h.few;
    there = omega (arith, length-flat group_octets group_size group-size groups);
    short = h.short;
    small = h.small;
    each = λ k l. let d = group_in [] 0 in rw (sym (get_or-listed (length groups) (group_in octets) d k l) ∙ ap (λ (gs : List Group). get_or gs k d) stored) (h.each d k l);
  }
