-- The point of a group that holds the place is the answer. Assumes nothing.
use mathlib.Core.Path.{◌≡◌, refl, sym, ap, ◌∙◌}
use mathlib.Core.List.{List}
use Prim.Native.Nat.{ℕ, ◌≤◌, ◌<◌}
use native.Mathlib.Omega.{arith}
use lib.ListN.{length, get_or}
use Rattle.format.specs.Refusals.{Row}
use Rattle.format.specs.Unpacking.{codes_of, said_by, points_up_to}
use Rattle.format.specs.Point.{point_refusals, point52, point_section5}
use Rattle.format.specs.Section5.{named_by}
use Rattle.format.specs.declared.Refusal.{Refusal}
use Rattle.format.specs.declared.Refusal.TheVariants.{Section5}
use Rattle.format.specs.declared.Template.{Template}
use Rattle.format.specs.declared.Differencing.{Differencing}
use Rattle.format.specs.declared.DecodedValue.{DecodedValue}
use Rattle.format.specs.declared.DecodedValue.TheVariants.{Missing1}
use Rattle.format.specs.declared.Named.{Named}
use Rattle.format.specs.declared.Named.TheVariants as named
use Rattle.laws.specs.Accepting.{Counted}
use Rattle.laws.specs.First.{Clear, first-through, passed}
use Rattle.groups.specs.declared.HolderGroup.{HolderGroup}
use Rattle.groups.specs.Packed.{Readable, held_point}
use Rattle.point.specs.Holding.{holder52, held52}
use Rattle.point.proofs.Holding.{readable, point-is, passes, below}
use Rattle.std.specs.declared.result.Result.{Result}
use Rattle.std.specs.declared.result.Result.TheVariants.{Ok, Err}

-- the point at the place, whichever group holds it
abbrev picked_of : ℕ → Template → List ℕ → Result HolderGroup Refusal → Result DecodedValue Refusal
picked_of place t payload (Ok h) = Ok (get_or (points_up_to t (said_by 0 t payload) t.groups) place Missing1)
picked_of place t payload (Err r) = Err r

module _ (place : ℕ) (t : Template) (declared : ℕ) (payload : List ℕ) {y : Result HolderGroup Refusal} (ey : y ≡ held52 place t declared payload) where
  abbrev rows : List Row
  rows = point_refusals place t declared payload

  picked-is : picked_of place t payload y ≡ point52 place t declared payload
  unfolding point52 said_by
  picked-is =
      ap (picked_of place t payload) ey ∙ first-through Err Err (picked_of place t payload) (λ r. refl) rows (Ok (holder52 place t payload))

  pub point-refused : {r : Refusal} → y ≡ Err r → Err r ≡ point52 place t declared payload
  point-refused e = rw e at picked-is

  module _ {h : HolderGroup} (e : y ≡ Ok h) where
    accepted : Clear rows × (h ≡ holder52 place t payload)
    accepted =
        let p = passed Err rows (Ok (holder52 place t payload)) (sym e ∙ ey) (λ r z. (let d : ◌≡◌ {A = ℕ} 0 1 = cc in omega arith)) in
        (p.0, cc p.1)

    same : h ≡ holder52 place t payload
    same = accepted.1

    counts : Counted 0 t declared (length payload) (codes_of 0 t payload)
    counts = passes place t declared payload accepted.0

    low : place < declared
    low = below place t declared payload accepted.0

    pub point-asked : (t.width ≤ 31) × Readable h place
    point-asked =
        rw same (counts.passing.width, readable place t declared payload counts.right counts.count counts.few low counts.passing)

    pub point-done : {point : DecodedValue} → point ≡ held_point t h payload place → Ok point ≡ point52 place t declared payload
    point-done ep =
        ap Ok (ep ∙ rw same (point-is place t declared payload counts.right counts.count counts.few low)) ∙ rw e at picked-is

-- ---- by Section 5

module _ (place : ℕ) (section5 payload : List ℕ) {x : Result Named Refusal} (ex : x ≡ named_by section5) where
  pub named-refused : {r : Refusal} → x ≡ Err r → Err r ≡ point_section5 place section5 payload
  named-refused e = rw (← ex, e)

  module _ {n : Named} (e : x ≡ Ok n) where
    pub named-complex : {declared : ℕ} {t : Template} {p : Result DecodedValue Refusal}
        → n ≡ named.Complex declared t → p ≡ point52 place t declared payload → p ≡ point_section5 place section5 payload
    named-complex d ep = rw (← ex, e, d) ep

    pub named-spatial : {declared : ℕ} {t : Template} {d : Differencing} → n ≡ named.Spatial declared t d → Err Section5 ≡ point_section5 place section5 payload
    named-spatial d = rw (← ex, e, d)
