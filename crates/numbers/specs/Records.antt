-- The records of groups as a list. Assumes nothing.
use Rattle.std.specs.Prelude.{◌≡◌, List, ℕ, ◌<◌, ◌≤◌, length, get_or}
use Rattle.format.specs.Lists.{greatest}
use Rattle.format.specs.Refusals.{limit}
use Rattle.format.specs.declared.Group.{Group}
use Rattle.laws.specs.Groups.{RecordOf}

-- group k of them, whatever is read behind the last
abbrev pub IsAt : List Group → ℕ → Group → Type 0
IsAt groups k g = (d : Group) → g ≡ get_or groups k d

-- the records of groups of numbers that packing takes
pub record Recorded (numbers : List ℕ) (groups : List Group) : Type 0 where
  pub some : 0 < length groups
  pub few : length groups ≤ limit
  pub short : length numbers ≤ limit
  pub small : greatest numbers ≤ 2147483647
  pub each : (d : Group) (k : ℕ) → k < length groups → RecordOf numbers (get_or groups k d)
