-- Runs, one code after another: what a turn owes to document 01's levels. Assumes nothing.
use Rattle.std.specs.Prelude.{◌≡◌, cond, ℕ, ◌+◌, ◌-◌, ◌*◌, ◌/◌, ◌%◌, ◌^◌, ◌≤◌, ◌<◌, min, leb, length, replicate, take}
use mathlib.Core.List.{List, ◌∷◌, ◌++◌, flat_map}
use Rattle.format.specs.Lists.{◌over◌}
use Rattle.format.specs.Layout.{level_octets}
use Rattle.format.specs.Refusals.{limit}
use Rattle.format.specs.Bits.{number_at}
use Rattle.format.specs.RunLength.{base_of, levels_of, levels_up_to, codes_read}
use Rattle.run_length.specs.declared.Run.{Run}
use Rattle.run_length.specs.declared.Turn.{Turn}

-- one more than the greatest count that is accepted: numbers above it need no telling apart
abbrev pub cap : ℕ
cap = limit + 1

-- the place of a run's next code
abbrev pub place_of : Run → ℕ
place_of r = r.octet.0 * 8 + r.bit

-- bits and greatest level that are accepted
pub record Coding (b M : ℕ) : Type 0 where
  pub some : 0 < b
  pub few : b ≤ 15
  pub low : M ≤ 2 ^ b - 1

-- a run somewhere in a payload; its weight is stopped at the cap
pub record Within (payload : List ℕ) (r : Run) : Type 0 where
  pub bit-low : r.bit ≤ 7
  pub inside : place_of r ≤ length payload * 8
  pub level-low : r.level < 2 ^ 15
  pub weight-low : r.weight ≤ cap

-- and a whole code is left there
pub record Waiting (b : ℕ) (payload : List ℕ) (r : Run) : Type 0 where
  pub within : Within payload r
  pub left : place_of r + b ≤ length payload * 8

-- the next code: a level, or more of the last one
abbrev pub meaning : ℕ → ℕ → Run → ℕ → Turn
meaning b M r code =
    let level = leb code M in
    let end = r.bit + b in
    record {
      points = cond level 1 0 + (code - M - 1) * r.weight;
      next = record {
        octet = record { 0 = r.octet.0 + end / 8 };
        bit = end % 8;
        level = cond level code r.level;
        weight = cond level 1 (min (base_of b M * r.weight) cap);
      };
    }

-- with the run's weight as it would be without a cap: what a code and those behind it mean is `count` more points of a level,
-- and then what those behind it mean from the next run on
pub record Exactly (b M code : ℕ) (r : Run) (weight n : ℕ) (next : Run) : Type 0 where
  pub count : ℕ
  pub after : ℕ
  pub count-is : min n cap ≡ min count cap
  pub after_is : next.weight ≡ min after cap
  pub levels : (codes : List ℕ) → levels_of M (base_of b M) r.level weight (code ∷ codes)
      ≡ replicate count next.level ++ levels_of M (base_of b M) next.level after codes

pub record More (b M : ℕ) (payload : List ℕ) (r : Run) (n : ℕ) (next : Run) : Type 0 where
  pub within : Within payload next
  pub ahead : place_of next ≡ place_of r + b
  pub few : n < 2 ^ 57
  pub exact : (weight : ℕ) → r.weight ≡ min weight cap → Exactly b M (number_at payload (place_of r) b) r weight n next

-- before the first code
abbrev pub first_run : Run
first_run = record { octet = record { 0 = 0 }; bit = 0; level = 0; weight = 1 }

-- the codes that are read, unrolled: how many levels there are, up to the cap, and the first `room` of them stored
pub record Unrolling (b M declared : ℕ) (payload : List ℕ) (room : ℕ) (lent : List ℕ) (points : ℕ) (levels : List ℕ) : Type 0 where
  pub count : points ≡ min (length (levels_up_to b M payload (codes_read b M declared payload))) cap
  pub there : levels ≡ flat_map level_octets (take room (levels_up_to b M payload (codes_read b M declared payload))) over lent
