-- Document 01, "Unpacking under 5.2 and 5.3": template 5.3. Assumes nothing.
use Rattle.std.specs.Prelude.{ℕ, suc, ◌-◌, ◌*◌, ◌^◌, Bool, false, cond, eqb, ltb, length, replicate, ℤ, pos, neg_ℤ, nat_abs, ◌+ℤ◌, ◌-ℤ◌}
use mathlib.Core.List.{List, [], ◌∷◌, ◌++◌, map, flat_map}
use Rattle.format.specs.Lists.{any_of, ◌over◌}
use Rattle.format.specs.Bits.{bit_at, number_at, field_of}
use Rattle.format.specs.Layout.{point_size, point_octets}
use Rattle.format.specs.Refusals.{Row, ◌gives◌, first, room_refusals, Left, left}
use Rattle.format.specs.Template.{descriptors_end, order_refusals, kind_refusals, descriptor_refusals}
use Rattle.format.specs.Unpacking.{Codes, codes_of, Said, said_by, points_up_to, located_refusals, counted_refusals, located_by}
use Rattle.format.specs.declared.Refusal.TheVariants.{Short, Beyond}
use Rattle.format.specs.declared.Template.{Template}
use Rattle.format.specs.declared.Differencing.{Differencing}
use Rattle.format.specs.declared.Located.{Located}
use Rattle.format.specs.declared.DecodedValue.{DecodedValue}
use Rattle.format.specs.declared.DecodedValue.TheVariants.{Normal, Missing1, Missing2}
use Rattle.format.specs.declared.Refusal.{Refusal}
use Rattle.std.specs.declared.result.Result.{Result}
use Rattle.std.specs.declared.result.Result.TheVariants.{Ok, Err}

-- "descriptors are as many first values as the order says, unsigned, then the overall minimum with a leading sign bit and
-- magnitude (minus zero is zero). Each takes the stated 1 to 4 octets."
pub record Descriptors : Type 0 where
  pub firsts : List ℤ
  pub minimum : ℤ

abbrev pub signed : ℕ → ℕ → ℤ
signed sign magnitude = cond (eqb sign 1) (neg_ℤ (pos magnitude)) (pos magnitude)

unfoldable pub descriptors_of : Differencing → List ℕ → Descriptors
descriptors_of d payload =
    let w = d.octets * 8 in
    record {
      firsts = map pos (field_of payload 0 w d.order);
      minimum = signed (bit_at payload (d.order * w)) (number_at payload (suc (d.order * w)) (w - 1));
    }

-- "The minimum is added to each packed number."
unfoldable pub raised : ℤ → DecodedValue → DecodedValue
raised minimum (Normal packed) = Normal (packed +ℤ minimum)
raised minimum Missing1 = Missing1
raised minimum Missing2 = Missing2

-- "First order: [..] plus the previous restored number. Second order: [..] + 2 × previous − the one before."
unfoldable pub expected : ℕ → ℤ → ℤ → ℤ
expected order previous before = cond (eqb order 1) previous (previous +ℤ previous -ℤ before)

-- "the first non-missing point is the first value; each later one is its packed number plus [what is expected]. [..] Missing
-- points do not advance this.": first values that are still to come, the previous restored number and the one before
unfoldable pub restored : ℕ → List ℤ → ℤ → ℤ → List DecodedValue → List DecodedValue
restored order firsts previous before [] = []
restored order firsts previous before (Missing1 ∷ points) = Missing1 ∷ restored order firsts previous before points
restored order firsts previous before (Missing2 ∷ points) = Missing2 ∷ restored order firsts previous before points
restored order (value ∷ firsts) previous before (Normal packed ∷ points) =
    Normal value ∷ restored order firsts value previous points
restored order [] previous before (Normal packed ∷ points) =
    let number = packed +ℤ expected order previous before in
    Normal number ∷ restored order [] number previous points

-- "a restored number is beyond 2^60 either way"
unfoldable pub beyond : DecodedValue → Bool
beyond (Normal number) = ltb (2 ^ 60) (nat_abs number)
beyond Missing1 = false
beyond Missing2 = false

-- the points of what a payload says, from the packed ones
abbrev pub restored_from : ℕ → Descriptors → List DecodedValue → List DecodedValue
restored_from order descriptors packed =
    restored order descriptors.firsts (pos 0) (pos 0) (map (raised descriptors.minimum) packed)

unfoldable pub points53 : Template → ℕ → Descriptors → Said → List DecodedValue
points53 t order descriptors said = restored_from order descriptors (points_up_to t said t.groups)

-- "7 for descriptors", in a payload of so many octets
abbrev pub descriptors_short : Differencing → ℕ → List Row
descriptors_short d octets =
    ltb octets (descriptors_end d) gives Short
    ∷ []

-- "For 5.3: 3, 1, 2, 4, 7 for descriptors"
abbrev pub described_refusals : Template → Differencing → ℕ → List Row
described_refusals t d octets = order_refusals d ++ kind_refusals t ++ descriptor_refusals d ++ descriptors_short d octets

-- "then from 6 on as for 5.2", as far as 7 for the values
unfoldable pub locate53 : Template → Differencing → List ℕ → Result Located Refusal
locate53 t d payload =
    let start = descriptors_end d in
    let codes = codes_of start t payload in
    located_by (described_refusals t d (length payload) ++ located_refusals start t (length payload) codes) start t codes

-- as far as 10
abbrev pub refusals53 : Template → Differencing → ℕ → ℕ → Codes → List ℕ → List Row
refusals53 t d declared octets codes lent =
    described_refusals t d octets ++ counted_refusals (descriptors_end d) t declared octets codes
    ++ room_refusals point_size lent declared

-- "12 last.": "12 leaves number 0 and mark 0 in the declared places"
unfoldable pub left53 : ℕ → List DecodedValue → List ℕ → Left (Result ℕ Refusal)
left53 declared points lent =
    first (λ r. left (Err r) (flat_map point_octets (replicate declared (Normal (pos 0))) over lent))
    (any_of beyond points gives Beyond ∷ [])
    (left (Ok declared) (flat_map point_octets points over lent))

unfoldable pub unpack53 : Template → Differencing → ℕ → List ℕ → List ℕ → Left (Result ℕ Refusal)
unpack53 t d declared payload lent =
    let said = said_by (descriptors_end d) t payload in
    first (λ r. left (Err r) lent) (refusals53 t d declared (length payload) said.codes lent)
    (left53 declared (points53 t d.order (descriptors_of d payload) said) lent)
