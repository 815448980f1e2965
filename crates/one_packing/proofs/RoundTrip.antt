-- Round trip: a packing of some groups is accepted and unpacks to their numbers, by whatever rule the groups were made. Assumes
-- nothing.
use mathlib.Core.Path.{◌≡◌, refl, sym, ap, ◌∙◌}
use mathlib.Core.Bool.{and-false}
use mathlib.Core.List.{List, map}
use Prim.Native.Nat.{ℕ, suc, ◌≤◌, ◌<◌}
use native.Mathlib.Omega.{arith}
use borrow.Author.Tests.{le-ltb, ltb-false}
use lib.Dec.{ltb}
use lib.ListN.{length, get_or}
use Rattle.format.specs.Lists.{listed, greatest, least}
use Rattle.format.specs.Layout.{point_size}
use Rattle.format.specs.Refusals.{left, limit, room_refusals}
use Rattle.format.specs.Template.{kind_refusals}
use Rattle.format.specs.Grouping.{width_of, groups_of, number_refusals}
use Rattle.format.specs.Unpacking.{Codes, codes_of, group_width, group_length, points_before, said_by, wrong_group, places_of, counted_refusals, counted52, refusals52, unpack52}
use Rattle.format.specs.Packing.{template_of, payload_of, packing_of}
use Rattle.format.specs.declared.Template.{Template}
use Rattle.laws.specs.First.{Clear, clears, clear-join, clear-row, among, tests}
use Rattle.laws.specs.Lists.{length-listed, get_or-listed, length-map, any_none, any-not}
use Rattle.laws.specs.Extremes.{greatest-each}
use Rattle.laws.specs.Groups.{all_of, NoneEmpty, some-groups, groups-all, groups-none-empty, few-groups}
use Rattle.laws.specs.Accepting.{Passing}
use Rattle.laws.specs.Small.{NoneWrong}
use Rattle.laws.specs.Points.{length-points}
use Rattle.laws.specs.Codings.{codes_for, own-width, own-length, OutOf, out_of, template-coded, width-out-of, widths-limits, lengths-limits, template-passing, payload-short}
use Rattle.one_packing.specs.Claims.{Sent, points_in, number_point, Accepted, WithinLimits, RoundTrip}
use Rattle.one_packing.proofs.Points.{packed-codes, packed-end, packed-points}
use Rattle.std.specs.declared.result.Result.TheVariants.{Err}

module _ (numbers : List ℕ) (groups : List (List ℕ)) (e : all_of groups ≡ numbers) (none : NoneEmpty groups)
    (some : 0 < length numbers) (few : length numbers ≤ limit) (small : greatest numbers ≤ 2147483647) where
  abbrev t : Template
  t = template_of numbers groups

  abbrev codes : Codes
  codes = codes_for width_of (map least groups) t groups

  some-there : 0 < length groups
  some-there = some-groups groups (rw e some)

  few-there : length groups ≤ limit
  few-there = omega (arith, few-groups groups none, ap length e)

  count-is : t.groups ≡ length groups
  unfolding template_of
  count-is = refl

  -- ---- limits

  out : OutOf numbers groups
  out = out_of numbers groups e

  passing : Passing t
  passing = template-passing numbers groups out few-there few small

  width-below : (g : ℕ) → g < length groups → group_width t codes g ≤ 31
  width-below g l =
      rw (own-width width_of (map least groups) t groups (template-coded numbers groups some-there) g l) (width-out-of numbers groups out few-there few small g l)

  length-below : (g : ℕ) → g < length groups → group_length t codes g ≤ limit
  length-below g l = rw (own-length width_of (map least groups) t groups (template-coded numbers groups some-there) g l) (omega (arith, out.short g l))

  none-wrong : NoneWrong t codes
  unfolding wrong_group
  none-wrong =
      any-not _ (listed t.groups (λ g. g)) 0
      (λ g l.
      let m : g < length groups = omega (arith, count-is, length-listed t.groups (λ i. i)) in
      rw (
        get_or-listed t.groups (λ i. i) 0 g (omega (arith, count-is)),
        le-ltb 31 (group_width t codes g) (width-below g m),
        le-ltb 4294967295 (group_length t codes g) (omega (arith, length-below g m)),
      )
      (and-false (ltb (suc g) t.groups)))

  -- ---- what it says

  abbrev sent : Sent
  sent = record { template = t; payload = payload_of t groups }

  codes-are : codes_of 0 t (payload_of t groups) ≡ codes
  codes-are = packed-codes numbers groups e some-there

  pub points-are : points_in sent ≡ map number_point numbers
  points-are = packed-points numbers groups e some-there

  points-count : points_before t codes t.groups ≡ length numbers
  unfolding said_by
  points-count = ap (λ (c : Codes). points_before t c t.groups) (sym codes-are) ∙ sym (length-points t (said_by 0 t (payload_of t groups)) t.groups) ∙ ap length points-are ∙ length-map number_point numbers

  pub limits : WithinLimits sent
  limits =
      let w = widths-limits numbers groups out few-there few small in
      let l = lengths-limits numbers groups out few-there few small in
      record {
        width = passing.width;
        some-groups = omega (arith, count-is, some-there);
        few-groups = passing.few;
        width-reference = omega (arith, w.0);
        width-bits = passing.widths;
        length-reference = omega (arith, l.0);
        increment = l.1;
        last = omega (arith, l.2);
        length-bits = passing.lengths;
        widths = λ g m. rw codes-are (width-below g (omega (arith, count-is)));
        lengths = λ g m. rw codes-are (omega (arith, length-below g (omega (arith, count-is))));
        payload = omega (arith, payload-short numbers groups e none some-there few small);
      }

  -- ---- no row refuses it

  kinds : Clear (kind_refusals t)
  unfolding template_of
  kinds = (refl, (refl, tt))

  counted-too : (declared : ℕ) → length numbers ≡ declared → Clear (counted_refusals 0 t declared (length (payload_of t groups)) (codes_of 0 t (payload_of t groups)))
  unfolding places_of
  counted-too declared d =
      rw codes-are (omega (arith, tests, count-is, some-there, passing, none-wrong, packed-end numbers groups e some-there, points-count))

  pub accepted : Accepted sent
  unfolding unpack52 said_by
  accepted lent room =
      let n : length numbers ≡ length (points_in sent) = sym (ap length points-are ∙ length-map number_point numbers) in
      let declared = length (points_in sent) in
      let octets = length (payload_of t groups) in
      let own = codes_of 0 t (payload_of t groups) in
      clears (λ r. left (Err r) lent) (refusals52 t declared octets own lent) _
      (clear-join (counted52 t declared octets own) (room_refusals point_size lent declared)
      (clear-join (kind_refusals t) (counted_refusals 0 t declared octets own) kinds (counted-too declared n))
      (omega (arith, tests)))

-- ---- by document 01's rule, whatever cost is added

pub round_trip : (added : ℕ) → RoundTrip added
unfolding packing_of
round_trip added k numbers clear =
    let groups = groups_of width_of added k numbers in
    let all = groups-all width_of added k numbers in
    let none = groups-none-empty width_of added k numbers in
    let some : 0 < length numbers = omega (arith, tests) in
    let few : length numbers ≤ limit = omega (arith, tests) in
    let each = any_none (ltb 2147483647) numbers 0 (clear-row (number_refusals k numbers) clear (search among depth 20)) in
    let small : greatest numbers ≤ 2147483647 = greatest-each 2147483647 numbers (λ j l. ltb-false 2147483647 (get_or numbers j 0) (each j l)) in
    record { accepted = accepted numbers groups all none some few small; points = points-are numbers groups all none some few small; limits = limits numbers groups all none some few small }
