-- Each premise of demand 3 is needed: the smallest maps that show it. Assumes nothing.
use mathlib.Core.Path.{◌≡◌, refl, ap}
use mathlib.Core.List.{List, [], ◌∷◌}
use Prim.Native.Nat.{ℕ}
use native.Mathlib.Omega.{arith}
use lib.ListN.{get_or}
use Rattle.format.specs.Lists.{listed, total, joined, any_of, greatest, least}
use Rattle.format.specs.Refusals.{first}
use Rattle.format.specs.Bits.{bit_in, number_of, span_of}
use Rattle.format.specs.Layout.{mark_of}
use Rattle.format.specs.Seen.{template}
use Rattle.format.specs.Template.{widths_at, lengths_at, values_at}
use Rattle.format.specs.Unpacking.{codes_of, reference_of, said_by, group_width, group_length, points_before, bits_before, wrong_group, decoded, point_of, point_at, points_up_to, places_of, unpack52}
use Rattle.format.specs.Grouping.{digits_in, bits, width_of, ends_before, groups_from, groups_of}
use Rattle.format.specs.Packing.{template_of, packing_of, pack_by, pack}
use Rattle.format.specs.declared.DecodedValue.{DecodedValue}
use Rattle.format.specs.declared.DecodedValue.TheVariants.{Missing1}
use Rattle.format.specs.declared.Refusal.TheVariants.{Numbers}
use Rattle.format.specs.declared.Template.{Template}
use Rattle.one_packing.specs.Claims.{Sent, points_in, numbers_of, Accepted, packed_by, again}
use Rattle.one_packing.proofs.Accepting.{answered}
use Rattle.std.specs.declared.result.Result.TheVariants.{Err}

abbrev sent : Template → List ℕ → Sent
sent t payload = record { template = t; payload = payload }

-- one lookahead: 5 6 5 7 are four groups with lookahead 1, and two with lookahead 4
pub two-lookaheads : packed_by 0 1 (5 ∷ 6 ∷ 5 ∷ 7 ∷ []) ≡ packed_by 0 4 (5 ∷ 6 ∷ 5 ∷ 7 ∷ []) → ⊥
unfolding packing_of template_of groups_of groups_from ends_before width_of bits digits_in greatest least
two-lookaheads e = absurd (omega (arith, ap (λ (s : Sent). s.template.groups) e))

-- none missing: three points 0 and three missing points are packed alike, and are not the same
abbrev zeros : Sent
zeros = sent (template 0 0 1 0 0 0 0 3 0) []

abbrev missing : Sent
missing = sent (template 1 0 1 0 0 0 0 3 0) []

pub missing-points : Accepted zeros × Accepted missing × (points_in zeros ≡ points_in missing → ⊥) × (again 0 1 zeros ≡ again 0 1 missing)
unfolding listed total joined any_of first bit_in number_of span_of widths_at lengths_at values_at codes_of reference_of said_by group_width group_length points_before bits_before wrong_group decoded point_of point_at points_up_to places_of unpack52
missing-points = (
  (answered zeros 3 (listed 27 (λ i. 0)) _ refl).accepted,
  (answered missing 3 (listed 27 (λ i. 0)) _ refl).accepted,
  λ e. absurd (omega (arith, ap (λ (points : List DecodedValue). mark_of (get_or points 0 Missing1)) e)),
  refl,
)

-- a packing whose numbers packing refuses, whatever is lent
abbrev RefusedAgain : Sent → Type 0
RefusedAgain a = Accepted a × ((groups payload summary : List ℕ) → (pack 1 (numbers_of a) groups payload summary).answer ≡ Err Numbers)

-- no number above 2,147,483,647: document 01's packing of 2,147,483,648
pub number-above : RefusedAgain (sent (template 0 31 1 1 0 0 0 1 0) (0xFF ∷ 0xFF ∷ 0xFF ∷ 0xFE ∷ 0x80 ∷ []))
unfolding listed total joined any_of first bit_in number_of span_of widths_at lengths_at values_at codes_of reference_of said_by group_width group_length points_before bits_before wrong_group decoded point_of point_at points_up_to places_of unpack52 pack_by
number-above = ((answered (sent (template 0 31 1 1 0 0 0 1 0) (0xFF ∷ 0xFF ∷ 0xFF ∷ 0xFE ∷ 0x80 ∷ [])) 1 (listed 9 (λ i. 0)) _ refl).accepted, λ groups payload summary. refl)

-- at least one point: a packing of none
pub no-point : RefusedAgain (sent (template 0 0 1 0 0 0 0 0 0) [])
unfolding listed total joined any_of first bit_in number_of span_of widths_at lengths_at values_at codes_of reference_of said_by group_width group_length points_before bits_before wrong_group decoded point_of point_at points_up_to places_of unpack52 pack_by
no-point = ((answered (sent (template 0 0 1 0 0 0 0 0 0) []) 0 [] _ refl).accepted, λ groups payload summary. refl)
