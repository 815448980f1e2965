-- What the coding is asked. Assumes nothing.
use Rattle.std.specs.Prelude.{List, map, ℕ, ◌<◌, ◌≤◌, length, get_or}
use Rattle.format.specs.Refusals.{limit}
use Rattle.format.specs.declared.Group.{Group}

-- the widths and the lengths of groups
abbrev pub widths_in : List Group → List ℕ
widths_in groups = map (λ g. g.width) groups

abbrev pub lengths_in : List Group → List ℕ
lengths_in groups = map (λ g. g.length) groups

-- groups that can be coded: one or more, no more than the limit, and of widths that a code can have
pub record Codable (groups : List Group) : Type 0 where
  pub some : 0 < length groups
  pub few : length groups ≤ limit
  pub narrow : (d : Group) (k : ℕ) → k < length groups → (get_or groups k d).width ≤ 32
