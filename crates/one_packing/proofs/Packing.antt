-- Packing accepts what document 01 lets it, where there is room, and gives the packing that the claims speak of. Assumes nothing.
use mathlib.Core.Path.{◌≡◌, refl, sym, ap, ◌∙◌}
use mathlib.Core.List.{List, [], ◌∷◌, ◌++◌}
use Prim.Native.Nat.{ℕ}
use native.Mathlib.Omega.{arith}
use lib.Dec.{ltb}
use lib.ListN.{length}
use Rattle.std.specs.declared.result.Result.TheVariants.{Ok, Err}
use Rattle.format.specs.Lists.{◌over◌}
use Rattle.format.specs.Layout.{in_fours, group_size, group_octets}
use Rattle.format.specs.Refusals.{Row, ◌gives◌, first, room_refusals, refusal_number, answer_number}
use Rattle.format.specs.Grouping.{groups01, number_refusals, groups_lent}
use Rattle.format.specs.Packing.{template_of, Packing, packing_of, summary_numbers, summary_size, LeftPacked, pack_by, pack}
use Rattle.format.specs.declared.Refusal.{Refusal}
use Rattle.format.specs.declared.Refusal.TheVariants.{Room}
use Rattle.laws.specs.First.{clears, clear-front, clear-join, clear_later, first-through, passed, refusal-some, tests}
use Rattle.laws.specs.Groups.{length-records}
use Rattle.one_packing.specs.Claims.{Acceptable, EnoughRoom, given_by, packed_by, ByPacking, ByPackingAlone}

-- what packing gives where nothing refuses, by document 01's rule
module _ (k : ℕ) (numbers groups payload summary : List ℕ) where
  abbrev p : Packing
  p = packing_of numbers (groups01 k numbers)

  -- "10 for the group list, 10 for the payload"
  abbrev late : List Row
  late = room_refusals group_size groups (length p.records) ++ (ltb (length payload) (length p.payload) gives Room ∷ [])

  -- "13", and the 40 octets
  abbrev for-summary : List Row
  for-summary = ltb (length summary) summary_size gives Room ∷ []

  abbrev early : List Row
  early = number_refusals k numbers ++ for-summary

  abbrev refused : List ℕ → Refusal → LeftPacked
  refused left r = record { answer = Err r; groups = left; payload = payload; summary = summary }

  abbrev stored : List ℕ
  stored = (groups_lent group_octets group_size p.records groups).buffer

  abbrev whole : LeftPacked
  whole = record {
    answer = Ok (record { template = p.template; octets = record { 0 = length p.payload } });
    groups = stored;
    payload = p.payload over payload;
    summary = in_fours (summary_numbers p.template (length p.records) (length p.payload)) over summary;
  }

  pack-is : pack k numbers groups payload summary ≡ first (refused groups) early (first (refused stored) late whole)
  unfolding pack_by
  pack-is = refl

  many : length p.records ≡ p.template.groups
  unfolding packing_of template_of
  many = length-records 0 (groups01 k numbers)

  packs : Acceptable k numbers → EnoughRoom (packed_by 0 k numbers) groups payload summary → pack k numbers groups payload summary ≡ whole
  unfolding packing_of
  packs clear room =
      let all = clears (refused groups) early (first (refused stored) late whole) (clear-join (number_refusals k numbers) for-summary clear (omega (arith, tests, room.for-summary))) in
      let last = clears (refused stored) late whole (omega (arith, tests, many, room.for-groups, room.for-payload)) in
      pack-is ∙ sym (last ∙ all)

  alone : answer_number (pack k numbers groups payload summary).answer ≡ 0 → Acceptable k numbers × EnoughRoom (packed_by 0 k numbers) groups payload summary
  unfolding packing_of
  alone e =
      let number : LeftPacked → ℕ = λ p. answer_number p.answer in
      let none : (r : Refusal) → 0 ≡ refusal_number r → ⊥ = λ r d. absurd (omega (arith, refusal-some r)) in
      let one = passed refusal_number early _ (sym e ∙ ap number pack-is ∙ first-through (refused groups) refusal_number number (λ r. refl) early _) none in
      let two = passed refusal_number late _ (one.1 ∙ first-through (refused stored) refusal_number number (λ r. refl) late whole) none in
      let small = clear_later (number_refusals k numbers) for-summary one.0 in
      let rooms = two.0 in (
        clear-front (number_refusals k numbers) for-summary one.0,
        record { for-groups = omega (arith, tests, many); for-payload = omega (arith, tests); for-summary = omega (arith, tests) },
      )

pub by-packing : ByPacking
by-packing k numbers clear groups payload summary room =
    ap given_by (packs k numbers groups payload summary clear room) ∙ rw (many k numbers groups payload summary)

pub by-packing-alone : ByPackingAlone
by-packing-alone = alone
