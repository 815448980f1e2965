-- What a place has that no row refuses: a group that holds it, and in it the point. Assumes nothing.
use mathlib.Core.Path.{◌≡◌, refl, sym, ap, ◌∙◌}
use mathlib.Core.List.{List}
use Prim.Native.Nat.{ℕ, ◌+◌, ◌-◌, ◌^◌, ◌≤◌, ◌<◌}
use native.Mathlib.Omega.{arith}
use borrow.Author.Tests.{leb-false}
use lib.ListN.{length, get_or}
use Rattle.format.specs.Refusals.{limit}
use Rattle.format.specs.Template.{values_at, kind_refusals}
use Rattle.format.specs.Unpacking.{Codes, codes_of, group_length, points_before, bits_before, places_of, said_by, points_up_to, counted52}
use Rattle.format.specs.Point.{place_refusals, point_refusals}
use Rattle.format.specs.declared.Template.{Template}
use Rattle.format.specs.declared.DecodedValue.TheVariants.{Missing1}
use Rattle.laws.specs.Accepting.{Passing, Counted, counted, laid}
use Rattle.laws.specs.First.{Clear, clear-front, clear_later}
use Rattle.laws.specs.Points.{points-within, point-placed, point-read, holder_of, Holds, held}
use Rattle.laws.specs.Small.{NoneWrong, width_low, reference-low, bits-low}
use Rattle.groups.specs.declared.HolderGroup.{HolderGroup}
use Rattle.groups.specs.Packed.{Readable, held_point}
use Rattle.point.specs.Holding.{holder52}

module _ (place : ℕ) (t : Template) (declared : ℕ) (payload : List ℕ) where
  abbrev codes : Codes
  codes = codes_of 0 t payload

  abbrev g : ℕ
  g = holder_of t codes place t.groups

  abbrev holder : HolderGroup
  holder = holder52 place t payload

  module _ (right : NoneWrong t codes) (count : points_before t codes t.groups ≡ declared) (few : declared ≤ limit) (below : place < declared) where
    pub holds : Holds t codes place t.groups g
    holds = held t codes place t.groups (omega arith)

    within : points_before t codes g + group_length t codes g ≤ declared
    within = omega (arith, points-within t codes t.groups g holds.among)

    pub bits-few : bits_before t codes g < 2 ^ 32
    bits-few = omega (arith, within, bits-low t codes right g (omega (arith, holds.among)))

    values_low : Passing t → values_at 0 t < 2 ^ 42
    unfolding places_of
    values_low passing = (laid 0 0 {p = places_of 0 t 0} passing (omega arith) refl).values_low

    pub readable : Passing t → Readable holder place
    readable passing = record {
      reference = reference-low 0 t payload passing.width g holds.among;
      width = width_low t codes right g holds.among;
      values = omega (arith, bits-few, values_low passing);
      begins = holds.begins;
      near = omega (arith, holds.ends, within);
    }

    pub point-is : held_point t holder payload place ≡ get_or (points_up_to t (said_by 0 t payload) t.groups) place Missing1
    unfolding held_point said_by
    point-is =
        let k : ℕ = place - points_before t codes g in
        let at : points_before t codes g + k ≡ place = omega (arith, holds.begins) in
        let inside : k < group_length t codes g = omega (arith, holds.begins, holds.ends) in
        sym (point-read 0 t payload g k holds.among inside) ∙ sym (point-placed t (said_by 0 t payload) Missing1 t.groups g k holds.among inside)
        ∙ ap (λ (i : ℕ). get_or (points_up_to t (said_by 0 t payload) t.groups) i Missing1) at

  module _ (clear : Clear (point_refusals place t declared payload)) where
    pub passes : Counted 0 t declared (length payload) codes
    passes = counted (kind_refusals t) 0 t declared (length payload) codes (clear-front (counted52 t declared (length payload) codes) (place_refusals place declared) clear)

    pub below : place < declared
    below = leb-false declared place (clear_later (counted52 t declared (length payload) codes) (place_refusals place declared) clear).0
