-- All points, one after another. Assumes nothing.
use mathlib.Core.Path.{◌≡◌, refl, sym, ap, subst, ◌∙◌}
use mathlib.Core.List.{List, [], ◌∷◌, ◌++◌, append_assoc, map, flat_map}
use Prim.Native.Nat.{ℕ, suc, ◌+◌, ◌-◌, ◌*◌, ◌/◌, ◌≤◌, ◌<◌}
use native.Mathlib.Omega.{arith}
use lib.ListN.{length, drop, length-append}
use Rattle.std.specs.declared.result.Result.{Result}
use Rattle.std.specs.declared.result.Result.TheVariants.{Ok, Err}
use Rattle.format.specs.Lists.{any_of}
use Rattle.format.specs.Layout.{point_size, point_octets}
use Rattle.format.specs.Differences.{Descriptors, descriptors_of, restored, restored_from}
use Rattle.format.specs.declared.Refusal.{Refusal}
use Rattle.format.specs.declared.Refusal.TheVariants.{Beyond}
use Rattle.format.specs.declared.Differencing.{Differencing}
use Rattle.format.specs.declared.DecodedValue.{DecodedValue}
use Rattle.laws.specs.Points.{size-point, size-points}
use Rattle.diff.specs.Restoring.{Holding, answered, from, Lying, Went, Stopped, Remaining, AllRestored, Onward, settled, first_restoring, Orderly, Restored}
use Rattle.diff.specs.declared.restoring.Restoring.{Restoring}
use Rattle.diff.proofs.Biased.{kept-zero}

-- ---- from one point on

module _ {count k : ℕ} {octets : List ℕ} where
  -- the packed point that stands at k
  lies : {point : DecodedValue} {more : List DecodedValue} {front : List ℕ} → Remaining count k octets (point ∷ more) front
      → Lying k octets point front (flat_map point_octets more)
  unfolding flat_map
  lies h = record { small = h.small 0 (omega arith); long = h.long; there = h.there }

module _ {k : ℕ} {octets : List ℕ} {order : ℕ} {d : Descriptors} {r : Restoring} where
  -- a point is in its place, and what comes to the others comes to all
  onward-more : {octets' after : List ℕ} {next : Restoring} {answer : Result (Unit {0}) Refusal} → Went order d r k octets octets' next
      → k < length octets / point_size → Onward order d next (k + 1) octets' answer after → Onward order d r k octets answer after
  unfolding flat_map any_of
  onward-more {octets'} {after} {next} {answer} m l o = record { long = o.long ∙ m.long; exact = all }
    where
      all : (packed : List DecodedValue) (front : List ℕ) → Remaining (length octets / point_size) k octets packed front → AllRestored order d r answer after packed front
      all [] front h = absurd (omega (arith, h.few))
      all (point ∷ more) front h =
          let t = m.exact point front (flat_map point_octets more) (lies h) in
          let here = point_octets t.point in
          let f = o.exact more (front ++ here) record {
            small = λ j i. h.small (suc j) (omega arith);
            few = rw m.long (omega (arith, h.few));
            long = length-append front here ∙ omega (arith, h.long, size-point t.point);
            there = t.there ∙ sym (append_assoc front here (flat_map point_octets more));
          } in
          record {
            is = rw (t.comes more, t.within) f.is;
            there = λ e. rw (t.comes more) (f.there e ∙ append_assoc front here (flat_map point_octets (from order d next more)));
          }

  -- a point is beyond
  onward-beyond : {octets' : List ℕ} → Stopped order d r k octets octets' → k < length octets / point_size → Onward order d r k octets (Err Beyond) octets'
  unfolding any_of
  onward-beyond {octets'} m l = record { long = ap length m.same; exact = all }
    where
      all : (packed : List DecodedValue) (front : List ℕ) → Remaining (length octets / point_size) k octets packed front → AllRestored order d r (Err Beyond) octets' packed front
      all [] front h = absurd (omega (arith, h.few))
      all (point ∷ more) front h =
          let t = m.exact point front (flat_map point_octets more) (lies h) in
          record { is = rw (t.comes more, t.past); there = λ e. cc }

  -- no point is left
  onward-end : length octets / point_size ≤ k → Onward order d r k octets (Ok tt) octets
  unfolding any_of flat_map map restored
  onward-end l = record { long = refl; exact = all }
    where
      all : (packed : List DecodedValue) (front : List ℕ) → Remaining (length octets / point_size) k octets packed front → AllRestored order d r (Ok tt) octets packed front
      all [] front h = record { is = refl; there = λ e. h.there }
      all (point ∷ more) front h = absurd (omega (arith, h.few))

-- ---- the loops: what comes to the points from k on comes to all from k₀ on

pub record Underway (order : ℕ) (d : Descriptors) (r₀ : Restoring) (k₀ : ℕ) (octets₀ : List ℕ) (r : Restoring) (k : ℕ) (octets : List ℕ) : Type 0 where
  pub few : r.left ≤ order
  pub long : length octets ≡ length octets₀
  pub onward : {answer : Result (Unit {0}) Refusal} {after : List ℕ} → Onward order d r k octets answer after → Onward order d r₀ k₀ octets₀ answer after

pub underway-start : {order : ℕ} (d : Descriptors) (r : Restoring) (k : ℕ) (octets : List ℕ) → r.left ≤ order → Underway order d r k octets r k octets
underway-start d r k octets l = record { few = l; long = refl; onward = λ o. o }

module _ {order : ℕ} {d : Descriptors} {r₀ : Restoring} {k₀ : ℕ} {octets₀ : List ℕ} {r : Restoring} {k : ℕ} {octets : List ℕ} (u : Underway order d r₀ k₀ octets₀ r k octets) where
  module _ (l : k < length octets₀ / point_size) where
    inside : k < length octets / point_size
    inside = rw u.long l

    pub underway-more : {octets' : List ℕ} {next : Restoring} → Went order d r k octets octets' next → Underway order d r₀ k₀ octets₀ next (k + 1) octets'
    underway-more m = record { few = m.few; long = m.long ∙ u.long; onward = λ o. u.onward (onward-more m inside o) }

    pub underway-beyond : {octets' : List ℕ} → Stopped order d r k octets octets' → Onward order d r₀ k₀ octets₀ (Err Beyond) octets'
    underway-beyond m = u.onward (onward-beyond m inside)

    -- its octets are there
    pub point-there : (k + 1) * point_size ≤ length octets
    point-there = omega (arith, inside)

  pub underway-end : length octets₀ / point_size ≤ k → Onward order d r₀ k₀ octets₀ (Ok tt) octets
  underway-end l = u.onward (onward-end (rw u.long l))

  -- once no first value is still to come
  pub underway-settled : {answer : Result (Unit {0}) Refusal} {after : List ℕ} → r.left ≡ 0 → Onward order d (settled r) k octets answer after
      → Onward order d r₀ k₀ octets₀ answer after
  underway-settled {answer} {after} e o =
      u.onward (subst (λ (n : ℕ). Onward order d (record { left = n; previous = r.previous; before = r.before }) k octets answer after) (sym e) o)

-- ---- what the payload says

module _ (d : Differencing) (payload : List ℕ) {answer : Result (Unit {0}) Refusal} {before after : List ℕ} where
  whole : {order : ℕ} → order ≡ d.order → {x : Descriptors} → x ≡ descriptors_of d payload → Onward order x (first_restoring order) 0 before answer after
      → (packed : List DecodedValue) → Holding packed before → Restored d payload packed answer before after
  whole {order} e {x} ex o packed h =
      let all : drop (order - order) x.firsts ≡ x.firsts = let n : order - order ≡ 0 = omega arith in rw n in
      let same : from order x (first_restoring order) packed ≡ restored_from d.order (descriptors_of d payload) packed = rw (all, e, ex, kept-zero) in
      let f = o.exact packed [] record { small = h.small; few = omega (arith, size-points packed, ap length h.there); long = refl; there = h.there } in
      record {
        is = f.is ∙ ap answered same;
        there = λ t. f.there t ∙ ap (λ (l : List DecodedValue). flat_map point_octets l) same;
        long = o.long;
      }

  pub whole-first : d.order ≡ 1 → {x : Descriptors} → x ≡ descriptors_of (record { order = 1; octets = d.octets }) payload → Onward 1 x (first_restoring 1) 0 before answer after
      → (packed : List DecodedValue) → Holding packed before → Restored d payload packed answer before after
  whole-first e ex o = whole (sym e) (ex ∙ ap (λ (n : ℕ). descriptors_of (record { order = n; octets = d.octets }) payload) (sym e)) o

  pub whole-second : Orderly d → (d.order ≡ 1 → ⊥) → {x : Descriptors} → x ≡ descriptors_of (record { order = 2; octets = d.octets }) payload → Onward 2 x (first_restoring 2) 0 before answer after
      → (packed : List DecodedValue) → Holding packed before → Restored d payload packed answer before after
  whole-second w n ex o =
      let e : 2 ≡ d.order = omega arith in
      whole e (ex ∙ ap (λ (m : ℕ). descriptors_of (record { order = m; octets = d.octets }) payload) e) o
