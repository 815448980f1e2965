-- Refusal 12, and what stands in the declared places. Assumes nothing.
use mathlib.Core.Path.{◌≡◌, refl, ap, ◌∙◌}
use mathlib.Core.Bool.{Bool, true, false}
use mathlib.Core.List.{List, ◌++◌, flat_map}
use Prim.Native.Nat.{ℕ, ◌*◌, ◌≤◌}
use native.Mathlib.Omega.{arith}
use lib.ListN.{length, take, drop, replicate, length-replicate, length-append}
use lib.Seq.{sets, drop_at, length-take-le}
use lib.IntN.{ℤ, pos}
use Rattle.format.specs.Lists.{any_of, ◌over◌}
use Rattle.format.specs.Refusals.{first, left}
use Rattle.format.specs.Layout.{point_size, point_octets}
use Rattle.format.specs.Differences.{descriptors_of, restored_from, beyond, left53}
use Rattle.format.specs.declared.Refusal.{Refusal}
use Rattle.format.specs.declared.Refusal.TheVariants.{Beyond}
use Rattle.std.specs.declared.result.Result.{Result}
use Rattle.format.specs.declared.Differencing.{Differencing}
use Rattle.format.specs.declared.DecodedValue.{DecodedValue}
use Rattle.format.specs.declared.DecodedValue.TheVariants.{Normal}
use Rattle.laws.specs.Points.{size-points}
use Rattle.laws.specs.Stores.{sets-front}
use Rattle.diff.specs.Restoring.{Holding, Restored}
use Rattle.std.specs.declared.result.Result.TheVariants.{Ok, Err}

-- the declared places are restored by themselves, and the others stay
module _ (d : Differencing) (payload : List ℕ) (declared : ℕ) (lent : List ℕ) (room : declared * point_size ≤ length lent) {answer : Result (Unit {0}) Refusal} {after : List ℕ}
    (r : (packed : List DecodedValue) → Holding packed (take (declared * point_size) lent) → Restored d payload packed answer (take (declared * point_size) lent) after)
    (packed : List DecodedValue) (h : Holding packed (take (declared * point_size) lent)) where
  abbrev points : List DecodedValue
  points = restored_from d.order (descriptors_of d payload) packed

  long : length after ≡ declared * point_size
  long = (r packed h).long ∙ length-take-le (declared * point_size) lent room

  pub differences-within : answer ≡ Ok tt → left (Ok declared) (after ++ drop (declared * point_size) lent) ≡ left53 declared points lent
  unfolding left53 first
  differences-within a = by-test (any_of beyond points) refl
    where
      by-test : (t : Bool) → any_of beyond points ≡ t → left (Ok declared) (after ++ drop (declared * point_size) lent) ≡ left53 declared points lent
      by-test true e = absurd (let n : answer ≡ Err Beyond = (r packed h).is ∙ rw e in cc)
      by-test false e =
          let there : after ≡ flat_map point_octets points = (r packed h).there a in
          rw (e, ← there, long)

  pub differences-beyond : {refusal : Refusal} → answer ≡ Err refusal → {z : ℤ} {cleared : List ℕ} → z ≡ pos 0
      → cleared ≡ sets (after ++ drop (declared * point_size) lent) (0 * point_size) (flat_map point_octets (replicate declared (Normal z)))
      → left (Err refusal) cleared ≡ left53 declared points lent
  unfolding left53 first
  differences-beyond {refusal} a {z} {cleared} ez es = by-test (any_of beyond points) refl
    where
      by-test : (t : Bool) → any_of beyond points ≡ t → left (Err refusal) cleared ≡ left53 declared points lent
      by-test true e =
          let zeros = flat_map point_octets (replicate declared (Normal (pos 0))) in
          let size : length zeros ≡ declared * point_size = size-points (replicate declared (Normal (pos 0))) ∙ ap (λ (m : ℕ). m * point_size) (length-replicate declared (Normal (pos 0))) in
          let same : refusal ≡ Beyond = (let n : answer ≡ Err Beyond = (r packed h).is ∙ rw e in cc) in
          let now : List ℕ = after ++ drop (declared * point_size) lent in
          let stay : zeros over now ≡ zeros over lent = rw (size, drop_at after (drop (declared * point_size) lent) (declared * point_size) long) in
          rw (e, same) (ap (left (Err Beyond)) (es ∙ rw ez (sets-front now zeros (omega (arith, size, long, length-append after (drop (declared * point_size) lent))) ∙ stay)))
      by-test false e = absurd (let n : answer ≡ Ok tt = (r packed h).is ∙ rw e in cc)
