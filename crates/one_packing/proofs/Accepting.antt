-- What it says of a packing that unpacking accepts it. Assumes nothing.
use mathlib.Core.Path.{◌≡◌, refl, ap, ◌∙◌}
use mathlib.Core.List.{List, flat_map}
use Prim.Native.Nat.{ℕ, ◌≤◌}
use native.Mathlib.Omega.{arith}
use lib.ListN.{length}
use Rattle.format.specs.Lists.{◌over◌}
use Rattle.format.specs.Layout.{point_size, point_octets}
use Rattle.format.specs.Refusals.{limit, room_refusals, Left, left, refusal_number}
use Rattle.format.specs.Template.{kind_refusals}
use Rattle.format.specs.Unpacking.{codes_of, said_by, counted52, refusals52, unpack52}
use Rattle.laws.specs.First.{Clear, clears, clear-front, clear-join, refusal-some, passed, first-through, tests}
use Rattle.laws.specs.Points.{length-points}
use Rattle.laws.specs.Small.{AllSmall}
use Rattle.laws.proofs.Small.{small-points}
use Rattle.laws.specs.Accepting.{counted}
use Rattle.cleatmow.specs.Calls.{called}
use Rattle.one_packing.specs.Claims.{Sent, points_in, Accepted}
use Rattle.std.specs.declared.result.Result.TheVariants.{Ok, Err}

-- what a call of unpacking that answered 0 says: of the packing, and of the octets that were lent
pub record Answered (sent : Sent) (declared : ℕ) (lent points : List ℕ) : Type 0 where
  pub accepted : Accepted sent
  pub count : length (points_in sent) ≡ declared
  pub few : declared ≤ limit
  pub small : AllSmall (points_in sent)
  pub there : points ≡ flat_map point_octets (points_in sent) over lent

pub answered : (sent : Sent) (declared : ℕ) (lent points : List ℕ)
    → left 0 points ≡ called (unpack52 sent.template declared sent.payload lent) → Answered sent declared lent points
unfolding unpack52 said_by
answered sent declared lent points e =
    let t = sent.template in
    let octets = length sent.payload in
    let codes = codes_of 0 t sent.payload in
    let all = refusals52 t declared octets codes lent in
    let through = first-through (λ r. left (Err r) lent) (λ r. left (refusal_number r) lent) called (λ r. refl) all
    (left (Ok declared) (flat_map point_octets (points_in sent) over lent)) in
    let p = passed (λ r. left (refusal_number r) lent) all _ (e ∙ through) (λ r d. absurd (omega (arith, refusal-some r, ap (λ (x : Left ℕ). x.answer) d))) in
    -- no row refuses it but for the room
    let clear : Clear (counted52 t declared octets codes) = clear-front (counted52 t declared octets codes) (room_refusals point_size lent declared) p.0 in
    let c = counted (kind_refusals t) 0 t declared octets codes clear in
    let count : length (points_in sent) ≡ declared = length-points t (said_by 0 t sent.payload) t.groups ∙ c.count in
    record {
      accepted = λ other enough.
          clears (λ r. left (Err r) other) (refusals52 t (length (points_in sent)) octets codes other) _
          (rw count (clear-join (counted52 t declared octets codes) (room_refusals point_size other declared) clear (omega (arith, tests, count))));
      count = count;
      few = c.few;
      small = small-points 0 t sent.payload c.passing.width c.right;
      there = ap (λ (x : Left ℕ). x.buffer) p.1;
    }
