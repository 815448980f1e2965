-- One map, one packing: of packings that held_number the same points, packed again. Assumes nothing.
use mathlib.Core.Path.{◌≡◌, refl, ap, ◌∙◌}
use mathlib.Core.Bool.{false}
use mathlib.Core.List.{List, map, flat_map}
use Prim.Native.Nat.{ℕ, ◌<◌}
use native.Mathlib.Omega.{arith}
use borrow.Author.Tests.{le-ltb}
use lib.Dec.{ltb}
use lib.ListN.{length, get_or}
use lib.Seq.{ext_get_or}
use lib.IntN.{pos, negsuc}
use Rattle.format.specs.Lists.{any_of, ◌over◌}
use Rattle.format.specs.Layout.{mark_of, point_octets}
use Rattle.format.specs.declared.DecodedValue.{DecodedValue}
use Rattle.format.specs.declared.DecodedValue.TheVariants.{Normal, Missing1, Missing2}
use Rattle.laws.specs.First.{tests}
use Rattle.laws.specs.Lists.{length-map, map_at, any-not}
use Rattle.laws.specs.Points.{size-points}
use Rattle.laws.specs.Small.{Small}
use Rattle.cleatmow.specs.Calls.{called}
use Rattle.one_packing.specs.Claims.{Sent, points_in, held_number, number_point, Demanded, Lookahead, Acceptable, packed_by, Repackable, Canonical, Idempotent}
use Rattle.one_packing.proofs.RoundTrip.{round_trip}
use Rattle.one_packing.proofs.Accepting.{Answered, answered}
use Rattle.one_packing.proofs.Packers as packers

number-again : (point : DecodedValue) → Small point → mark_of point ≡ 0 → number_point (held_number point) ≡ point
number-again (Normal (pos n)) h e = refl
number-again (Normal (negsuc n)) h e = absurd h
number-again Missing1 h e = absurd (omega arith)
number-again Missing2 h e = absurd (omega arith)

-- points that packing takes and that are their numbers
pub record Taken (k : ℕ) (points : List DecodedValue) : Type 0 where
  pub clear : Acceptable k (map held_number points)
  pub same : map number_point (map held_number points) ≡ points

pub taken : (k : ℕ) → Lookahead k → (sent : Sent) → Demanded sent → Taken k (points_in sent)
taken k ahead sent demanded =
    let points = points_in sent in
    let many : length (map held_number points) ≡ length points = length-map held_number points in
    let octets = flat_map point_octets points in
    let own : Answered sent (length points) octets (octets over octets) =
    answered sent (length points) octets (octets over octets) (ap called (demanded.accepted octets (omega (arith, size-points points)))) in
    let none_above : any_of (ltb 2147483647) (map held_number points) ≡ false =
    any-not (ltb 2147483647) (map held_number points) 0 (λ j l. le-ltb 2147483647 (get_or (map held_number points) j 0) (omega (arith, demanded.small j (omega (arith, many))))) in
    record {
      clear = omega (arith, tests, many, own.few, none_above, demanded.some, ahead.some, ahead.few);
      same =
          ext_get_or Missing1 _ points (length-map number_point (map held_number points) ∙ many)
          (λ j l.
          let m : j < length points = omega (arith, many, length-map number_point (map held_number points)) in
          map_at number_point (map held_number points) 0 Missing1 j (omega (arith, many)) ∙ ap number_point (map_at held_number points Missing1 0 j m)
          ∙ number-again (get_or points j Missing1) (own.small j m) (demanded.none-missing j (omega arith)));
    }

module _ (added k : ℕ) where
  abbrev packer : List DecodedValue → Sent
  packer points = packed_by added k (map held_number points)

  back : (points : List DecodedValue) → Taken k points → points_in (packer points) ≡ points
  back points h = (round_trip added k (map held_number points) h.clear).points ∙ h.same

pub canonical : (added : ℕ) → Canonical added
canonical added k ahead a b da db =
    packers.canonical (Taken k) (packer added k) points_in (back added k) (points_in a) (points_in b) (taken k ahead a da) (taken k ahead b db)

pub repackable : Repackable
repackable k ahead a d = (taken k ahead a d).clear

pub idempotent : (added : ℕ) → Idempotent added
idempotent added k ahead a d =
    let t = taken k ahead a d in
    let e = back added k (points_in a) t in
    record {
      demanded = record {
        accepted = (round_trip added k (map held_number (points_in a)) t.clear).accepted;
        some = rw e d.some;
        none-missing = rw e d.none-missing;
        small = rw e d.small;
      };
      points = e;
      same = packers.idempotent (Taken k) (packer added k) points_in (back added k) (points_in a) t;
    }
