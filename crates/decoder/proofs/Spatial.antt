-- Unpacking under 5.3: the packed points that are left to be restored. Assumes nothing.
use mathlib.Core.Path.{◌≡◌, sym, ap, ◌∙◌}
use mathlib.Core.List.{List, ◌++◌, flat_map}
use Prim.Native.Nat.{ℕ, ◌*◌, ◌≤◌}
use native.Mathlib.Omega.{arith}
use lib.ListN.{length, take, drop, replicate, length-replicate}
use lib.Seq.{take_at}
use lib.IntN.{pos}
use Rattle.format.specs.Lists.{◌over◌}
use Rattle.format.specs.Refusals.{Row, limit, room_refusals, Left, left}
use Rattle.format.specs.Layout.{point_size, point_octets}
use Rattle.format.specs.Template.{descriptors_end}
use Rattle.format.specs.Unpacking.{codes_of, said_by, points_up_to, counted_refusals}
use Rattle.format.specs.Differences.{descriptors_of, described_refusals, locate53, refusals53, restored_from, points53, left53, unpack53}
use Rattle.format.specs.declared.Template.{Template}
use Rattle.format.specs.declared.Differencing.{Differencing}
use Rattle.format.specs.declared.DecodedValue.{DecodedValue}
use Rattle.format.specs.declared.DecodedValue.TheVariants.{Normal}
use Rattle.format.specs.declared.Refusal.{Refusal}
use Rattle.format.specs.declared.Located.{Located}
use Rattle.laws.specs.First.{Clear, refusal-stays, passed, clear-front, clears, tests}
use Rattle.laws.specs.Accepting.{Counted, counted, roomy}
use Rattle.laws.specs.Lists.{length_over, over-over}
use Rattle.laws.specs.Points.{size-points, length-points, length-restored}
use Rattle.laws.proofs.Small.{small-points}
use Rattle.diff.specs.Restoring.{Orderly, Holding}
use Rattle.decoder.proofs.Located.{unpacked_in, decide, packed-53}
use Rattle.std.specs.declared.result.Result.{Result}
use Rattle.std.specs.declared.result.Result.TheVariants.{Ok, Err}

module _ (t : Template) (d : Differencing) (declared : ℕ) (payload lent : List ℕ) {x : Result Located Refusal} (ex : x ≡ locate53 t d payload) where
  abbrev start : ℕ
  start = descriptors_end d

  abbrev packed : List DecodedValue
  packed = points_up_to t (said_by start t payload) t.groups

  abbrev rows : List Row
  rows = refusals53 t d declared (length payload) (codes_of start t payload) lent

  abbrev refused : Refusal → Left (Result ℕ Refusal)
  refused r = left (Err r) lent

  abbrev stored : Left (Result ℕ Refusal)
  stored = left (Ok declared) (flat_map point_octets packed over lent)

  pub refused-53 : {r : Refusal} → Err r ≡ decide t declared payload lent x → left (Err r) lent ≡ unpack53 t d declared payload lent
  unfolding unpack53 said_by
  refused-53 {r} e =
      refusal-stays refused rows stored _ (rw (← e) at (packed-53 t declared payload lent d ex))
      (λ z. (let q : Err r ≡ Ok declared = ap (λ (l : Left (Result ℕ Refusal)). l.answer) z in let n : ◌≡◌ {A = ℕ} 0 1 = cc in omega arith))

  -- an input that is refused by nothing but 12
  module _ {l : Located} {octets : List ℕ} (e : Ok l ≡ decide t declared payload lent x)
      (ea : octets ≡ flat_map point_octets (points_up_to t (said_by l.places.references.0 t payload) t.groups) over lent) where
    accepted : Clear rows × (unpacked_in t declared payload lent (Ok l) ≡ stored)
    accepted =
        passed refused rows stored (rw (← e) at (packed-53 t declared payload lent d ex))
        (λ r z. (let q : Ok declared ≡ Err r = ap (λ (l : Left (Result ℕ Refusal)). l.answer) z in let m : ◌≡◌ {A = ℕ} 0 1 = cc in omega arith))

    there : octets ≡ flat_map point_octets packed over lent
    there = ea ∙ ap (λ (a : Left (Result ℕ Refusal)). a.buffer) accepted.1

    passes : Counted start t declared (length payload) (codes_of start t payload)
    passes = counted (described_refusals t d (length payload)) start t declared (length payload) (codes_of start t payload) (clear-front (described_refusals t d (length payload) ++ counted_refusals start t declared (length payload) (codes_of start t payload)) (room_refusals point_size lent declared) accepted.0)

    room : declared * point_size ≤ length lent
    room = roomy (described_refusals t d (length payload)) start t declared (length payload) (codes_of start t payload) lent accepted.0

    long : length packed ≡ declared
    unfolding said_by
    long = length-points t (said_by start t payload) t.groups ∙ passes.count

    size : (points : List DecodedValue) → length points ≡ declared → length (flat_map point_octets points) ≡ declared * point_size
    size points h = size-points points ∙ ap (λ (m : ℕ). m * point_size) h

    holding : Holding packed (take (declared * point_size) octets)
    unfolding said_by
    holding = record {
      small = small-points start t payload passes.passing.width passes.right;
      there = rw there (take_at (flat_map point_octets packed) (drop (length (flat_map point_octets packed)) lent) (declared * point_size) (size packed long));
    }

    pub orderly-53 : Orderly d
    orderly-53 =
        let clear = accepted.0 in
        record { some = omega (arith, tests); few = omega (arith, tests); wide = omega (arith, tests); narrow = omega (arith, tests) }

    pub few-53 : declared ≤ limit
    few-53 = passes.few

    pub room-53 : declared * point_size ≤ length octets
    room-53 = rw there (omega (arith, room, length_over (flat_map point_octets packed) lent (omega (arith, room, size packed long))))

    -- the octets past the points are still those that were lent
    pub done-53 : {restored : Result ℕ Refusal} {after : List ℕ}
        → ((points : List DecodedValue) → Holding points (take (declared * point_size) octets) → left restored after ≡ left53 declared (restored_from d.order (descriptors_of d payload) points) octets)
        → left restored after ≡ unpack53 t d declared payload lent
    unfolding unpack53 points53 left53 said_by
    done-53 r =
        let points = restored_from d.order (descriptors_of d payload) packed in
        let zeros = replicate declared (Normal (pos 0)) in
        let same : (all : List DecodedValue) → length all ≡ declared → flat_map point_octets all over octets ≡ flat_map point_octets all over lent = λ all h. rw there (over-over (flat_map point_octets all) (flat_map point_octets packed) lent (size all h ∙ sym (size packed long))) in
        r packed holding
        ∙ rw (same points (length-restored d.order (descriptors_of d payload).firsts (pos 0) (pos 0) (descriptors_of d payload).minimum packed ∙ long), same zeros (length-replicate declared (Normal (pos 0))))
        (clears refused rows _ accepted.0)
