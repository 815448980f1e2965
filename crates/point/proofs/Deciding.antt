-- What is decided once the groups are walked is what document 02's rows decide. Assumes nothing.
use mathlib.Core.Path.{◌≡◌, refl, sym, ap, ◌∙◌}
use mathlib.Core.List.{List, ◌++◌}
use Prim.Native.Nat.{ℕ, ◌^◌, ◌≤◌, ◌<◌}
use native.Mathlib.Omega.{arith}
use borrow.Author.Tests.{le-leb, lt-leb}
use lib.ListN.{length}
use Rattle.std.specs.declared.result.Result.{Result}
use Rattle.std.specs.declared.result.Result.TheVariants.{Ok, Err}
use Rattle.format.specs.Refusals.{Row, first, limit, count_refusals}
use Rattle.format.specs.Template.{kind_refusals}
use Rattle.format.specs.Unpacking.{Codes, codes_of, points_before, places_of, located_refusals}
use Rattle.format.specs.Point.{place_refusals}
use Rattle.format.specs.declared.Refusal.{Refusal}
use Rattle.format.specs.declared.Refusal.TheVariants.{Place}
use Rattle.format.specs.declared.Template.{Template}
use Rattle.laws.specs.Accepting.{Laid}
use Rattle.laws.specs.Small.{NoneWrong}
use Rattle.laws.specs.First.{Clear, decides, clears, first-joined, first-through, tests}
use Rattle.groups.specs.declared.HolderGroup.{HolderGroup}
use Rattle.groups.specs.Packed.{holder_group}
use Rattle.group_fields.specs.Surveying.{survey52}
use Rattle.group_fields.proofs.Checks.{check-refused, check-passed}
use Rattle.group_fields.proofs.Order.{Walked52, walked-52}
use Rattle.group_fields.specs.declared.Surveyed.{Surveyed}
use Rattle.point.specs.Holding.{held52}
use Rattle.point.proofs.Holding.{holds, bits-few}

module _ (place : ℕ) (t : Template) (declared : ℕ) (payload : List ℕ) where
  abbrev codes : Codes
  codes = codes_of 0 t payload

  -- 9, then 15
  abbrev last_rows : ℕ → List Row
  last_rows points = count_refusals points declared ++ (place_refusals place declared)

  abbrev held_of : Result Surveyed Refusal → Result HolderGroup Refusal
  held_of (Ok s) = first Err (last_rows s.points) (Ok (holder_group t codes s.places.values.0 s.holder))
  held_of (Err r) = Err r

  held_rows : held_of (survey52 t payload place) ≡ held52 place t declared payload
  unfolding places_of
  held_rows =
      let rows = kind_refusals t ++ located_refusals 0 t (length payload) codes in
      first-through Err Err held_of (λ r. refl) rows _ ∙ sym (first-joined Err rows (last_rows (points_before t codes t.groups)) _)

  module _ {x : Result Surveyed Refusal} (ex : x ≡ survey52 t payload place) where
    rows_are : held_of x ≡ held52 place t declared payload
    rows_are = ap held_of ex ∙ held_rows

    pub held-refused : {r : Refusal} → x ≡ Err r → Err r ≡ held52 place t declared payload
    held-refused e = rw e at rows_are

    module _ {s : Surveyed} (e : x ≡ Ok s) {y : Result (Unit {0}) Refusal} (ey : y ≡ first Err (count_refusals s.points declared) (Ok tt)) where
      rows_left : first Err (last_rows s.points) (Ok (holder_group t codes s.places.values.0 s.holder)) ≡ held52 place t declared payload
      rows_left = rw e at rows_are

      pub held-other : {r : Refusal} → y ≡ Err r → Err r ≡ held52 place t declared payload
      held-other d = check-refused (place_refusals place declared) _ (count_refusals s.points declared) ey d ∙ rows_left

      module _ (counted : y ≡ Ok tt) where
        clear : Clear (count_refusals s.points declared)
        clear = check-passed _ ey counted

        pub held-past : declared ≤ place → Err Place ≡ held52 place t declared payload
        held-past l = let past = le-leb declared place l in decides Err Place (last_rows s.points) _ (omega (arith, tests, clear)) ∙ rows_left

        walked : Walked52 t payload place s
        walked = walked-52 t payload place ex e

        pub held-laid : Laid t s.places
        held-laid = walked.found.laid

        module _ (l : place < declared) where
          pub held-asked : (s.holder.group < t.groups) × (s.holder.bits < 2 ^ 62)
          held-asked =
              let right : NoneWrong t codes = rw walked.begins at walked.found.right in
              let found : s.points ≡ points_before t codes t.groups = rw walked.begins at walked.found.count in
              let count : points_before t codes t.groups ≡ declared = omega (arith, tests, clear) in
              let few : declared ≤ limit = omega (arith, tests, clear) in (
                rw walked.holder-is (holds place t declared payload right count few l).among,
                rw walked.holder-is (omega (arith, bits-few place t declared payload right count few l)),
              )

          pub held-right : {group : HolderGroup} → group ≡ holder_group t (codes_of s.places.references.0 t payload) s.places.values.0 s.holder
              → Ok group ≡ held52 place t declared payload
          held-right eg =
              let below = lt-leb declared place l in
              ap Ok (eg ∙ rw walked.begins) ∙ clears Err (last_rows s.points) _ (omega (arith, tests, clear)) ∙ rows_left
