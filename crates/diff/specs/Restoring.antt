-- Template 5.3, point by point: what a turn owes to document 01's restored points. Assumes nothing.
use Rattle.std.specs.Prelude.{◌≡◌, true, false, ℕ, ◌+◌, ◌-◌, ◌*◌, ◌/◌, ◌^◌, ◌≤◌, ◌<◌, cond, length, drop, ℤ, pos}
use Rattle.std.specs.declared.result.Result.{Result}
use Rattle.std.specs.declared.result.Result.TheVariants.{Ok, Err}
use mathlib.Core.List.{List, ◌∷◌, ◌++◌, map, flat_map}
use Rattle.format.specs.Lists.{any_of}
use Rattle.format.specs.Layout.{point_size, point_octets}
use Rattle.format.specs.Differences.{Descriptors, descriptors_of, raised, expected, restored, restored_from, beyond}
use Rattle.format.specs.declared.Refusal.{Refusal}
use Rattle.format.specs.declared.Refusal.TheVariants.{Beyond}
use Rattle.format.specs.declared.Differencing.{Differencing}
use Rattle.format.specs.declared.DecodedValue.{DecodedValue}
use Rattle.format.specs.declared.DecodedValue.TheVariants.{Normal}
use Rattle.laws.specs.Small.{Small, AllSmall}
use Rattle.diff.specs.Kept.{bias, kept}
use Rattle.diff.specs.declared.restoring.Restoring.{Restoring}

-- ---- what a caller sees

-- an order and octets of a descriptor that are accepted
pub record Orderly (d : Differencing) : Type 0 where
  pub some : 0 < d.order
  pub few : d.order ≤ 2
  pub wide : 0 < d.octets
  pub narrow : d.octets ≤ 4

-- the lent octets hold these packed points
pub record Holding (packed : List DecodedValue) (octets : List ℕ) : Type 0 where
  pub small : AllSmall packed
  pub there : octets ≡ flat_map point_octets packed

-- 12, "a restored number is beyond 2^60 either way"
abbrev pub answered : List DecodedValue → Result (Unit {0}) Refusal
answered points = cond (any_of beyond points) (Err Beyond) (Ok tt)

-- of the points that come of packed ones: the answer; where all are within 2^60 either way, every octet that is left; where one
-- is not, "12 leaves number 0 and mark 0 in the declared places", which is the caller's to do
pub record Outcome (points : List DecodedValue) (answer : Result (Unit {0}) Refusal) (before after : List ℕ) : Type 0 where
  pub is : answer ≡ answered points
  pub there : answer ≡ Ok tt → after ≡ flat_map point_octets points
  pub long : length after ≡ length before

-- all points of document 01
abbrev pub Restored : Differencing → List ℕ → List DecodedValue → Result (Unit {0}) Refusal → List ℕ → List ℕ → Type 0
Restored d payload packed = Outcome (restored_from d.order (descriptors_of d payload) packed)

-- ---- a turn

-- what is expected behind two numbers, kept, which is at most three times as far away
pub record Expected (order : ℕ) (previous before : ℤ) (n : ℕ) : Type 0 where
  pub number : expected order previous before ≡ kept n
  pub low : bias ≤ n + 3 * 2 ^ 60
  pub high : n ≤ bias + 3 * 2 ^ 60

-- the first point is still to come
abbrev pub first_restoring : ℕ → Restoring
first_restoring order = record { left = order; previous = kept bias; before = kept bias }

-- no first value is still to come
abbrev pub settled : Restoring → Restoring
settled r = record { left = 0; previous = r.previous; before = r.before }

-- a number is restored
abbrev pub following : ℤ → Restoring → Restoring
following z r = record { left = r.left - 1; previous = z; before = r.previous }

-- a packed point, in the lent octets between others
pub record Lying (k : ℕ) (octets : List ℕ) (packed : DecodedValue) (front behind : List ℕ) : Type 0 where
  pub small : Small packed
  pub long : length front ≡ k * point_size
  pub there : octets ≡ front ++ (point_octets packed ++ behind)

module _ (order : ℕ) (d : Descriptors) where
  -- the points that come of these packed ones, once restoring has come as far as r
  abbrev pub from : Restoring → List DecodedValue → List DecodedValue
  from r packed = restored order (drop (order - r.left) d.firsts) r.previous r.before (map (raised d.minimum) packed)

  -- a point comes of a packed one, and restoring goes on
  abbrev pub Comes : Restoring → DecodedValue → DecodedValue → Restoring → Type 0
  Comes r packed point next = (more : List DecodedValue) → from r (packed ∷ more) ≡ point ∷ from next more

  -- the next number, kept, which may be beyond
  pub record Coming (r : Restoring) (packed n : ℕ) : Type 0 where
    pub point : Comes r (Normal (pos packed)) (Normal (kept n)) (following (kept n) r)

  -- a point in its place
  pub record Advanced (r : Restoring) (octets : List ℕ) (packed : DecodedValue) (front behind : List ℕ) (next : Restoring) : Type 0 where
    pub point : DecodedValue
    pub within : beyond point ≡ false
    pub comes : Comes r packed point next
    pub there : octets ≡ front ++ (point_octets point ++ behind)

  pub record Went (r : Restoring) (k : ℕ) (before after : List ℕ) (next : Restoring) : Type 0 where
    pub few : next.left ≤ order
    pub long : length after ≡ length before
    pub exact : (packed : DecodedValue) (front behind : List ℕ) → Lying k before packed front behind → Advanced r after packed front behind next

  -- a point that is beyond
  pub record Ended (r : Restoring) (packed : DecodedValue) : Type 0 where
    pub next : Restoring
    pub point : DecodedValue
    pub past : beyond point ≡ true
    pub comes : Comes r packed point next

  pub record Stopped (r : Restoring) (k : ℕ) (before after : List ℕ) : Type 0 where
    pub same : after ≡ before
    pub exact : (packed : DecodedValue) (front behind : List ℕ) → Lying k before packed front behind → Ended r packed

  abbrev pub Told : Restoring → ℕ → List ℕ → List ℕ → Result Restoring Refusal → Type 0
  Told r k before after (Ok next) = Went r k before after next
  Told r k before after (Err refusal) = (refusal ≡ Beyond) × Stopped r k before after

-- ---- all points

-- packed points, in the lent octets from point k on, behind others
pub record Remaining (count k : ℕ) (octets : List ℕ) (packed : List DecodedValue) (front : List ℕ) : Type 0 where
  pub small : AllSmall packed
  pub few : k + length packed ≡ count
  pub long : length front ≡ k * point_size
  pub there : octets ≡ front ++ flat_map point_octets packed

module _ (order : ℕ) (d : Descriptors) where
  -- what restoring comes to from there: the answer, and the points where all are within 2^60 either way
  pub record AllRestored (r : Restoring) (answer : Result (Unit {0}) Refusal) (after : List ℕ) (packed : List DecodedValue) (front : List ℕ) : Type 0 where
    pub is : answer ≡ answered (from order d r packed)
    pub there : answer ≡ Ok tt → after ≡ front ++ flat_map point_octets (from order d r packed)

  pub record Onward (r : Restoring) (k : ℕ) (before : List ℕ) (answer : Result (Unit {0}) Refusal) (after : List ℕ) : Type 0 where
    pub long : length after ≡ length before
    pub exact : (packed : List DecodedValue) (front : List ℕ) → Remaining (length before / point_size) k before packed front → AllRestored r answer after packed front
